use Rattle.std.proofs.Common.{◌∙◌}
use Rattle.netflux_rooms.specs.Rooms.{goodbyes}
use Rattle.netflux_rooms.proofs.Ties.{id_is, ties_closed}
use Rattle.netflux_rooms.proofs.Closings.{all_parted}
use Rattle.netflux_rooms.proofs.room_hub.RoomHub.close.Goals as goal

pub returns : goal.returns
returns c = λ identities rooms tie.
    let channels = c.as_slice.ensures ∙ c.take-channels.ensures.taken ∙ tie.channels c.args.number in
    let id = c.in_ok-id.ensures ∙ id_is identities c.args.self.now rooms tie c.args.number in (
      c.in_ok-outs.ensures.outs ∙ (λ i. goodbyes (λ d. tie.members d i) (id i) c.args.number (channels i)),
      ties_closed identities c.args.self.now rooms tie c.args.number c.in_ok-id.id c.remove-2.new.self c.remove.new.self c.take-channels.new.self c.part_all.new.rooms c.requires id c.remove.ensures.here c.remove.ensures.apart c.remove-2.ensures c.take-channels.ensures.here c.take-channels.ensures.apart
          (all_parted identities c.args.self.now rooms tie c.args.number c.as_slice.result.now c.part_all.new.rooms channels c.in_ok-outs.ensures.parted c.in_ok-outs.ensures.apart),
    )
