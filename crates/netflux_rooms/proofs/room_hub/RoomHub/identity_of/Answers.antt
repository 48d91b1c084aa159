use Rattle.std.proofs.Common.{◌≡◌, ◌∙◌}
use Rattle.std.proofs.lemmas.Result.{IfOk-weaker}
use Rattle.netflux_rooms.specs.Inside.Seats.{id_at}
use Rattle.netflux_rooms.proofs.Ties.{id_is}
use Rattle.netflux_rooms.proofs.room_hub.RoomHub.identity_of.Goals as goal

pub returns : goal.returns
returns c = λ identities rooms tie.
    IfOk-weaker c.id_of.result (λ id. id ≡ id_at c.args.self.now c.args.number) _
    (λ id e. e ∙ id_is identities c.args.self.now rooms tie c.args.number) c.id_of.ensures
