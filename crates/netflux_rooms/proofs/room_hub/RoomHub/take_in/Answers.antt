use Rattle.std.proofs.Common.{◌∙◌, sym, []}
use Rattle.std.proofs.lemmas.Result.{IfOk-weaker}
use Rattle.netflux_rooms.specs.Rooms.{is_open, opened}
use Rattle.netflux_rooms.specs.Tables.{Done}
use Rattle.netflux_rooms.proofs.Ties.{done_by, open_is}
use Rattle.netflux_rooms.proofs.Chosen.{chosen_here, chosen_there}
use Rattle.netflux_rooms.proofs.room_hub.RoomHub.take_in.Goals as goal

pub returns-then-contains : goal.returns-then-contains
returns-then-contains c = λ identities rooms tie.
    done_by identities _ ([], rooms) _ c.args.self.now
    (chosen_here (is_open rooms c.args.number) ([], rooms) (opened identities rooms c.args.number) (sym (open_is identities c.args.self.now rooms tie c.args.number) ∙ sym c.contains.ensures ∙ c.if-contains.true))
    (c.new.ensures.items, tie)

pub returns : goal.returns
returns c = λ identities rooms tie.
    IfOk-weaker c.open.result (λ outs. Done identities (opened identities rooms c.args.number) outs.items c.open.new.self) _
    (λ outs d. done_by identities _ (opened identities rooms c.args.number) outs.items c.open.new.self
    (chosen_there (is_open rooms c.args.number) ([], rooms) (opened identities rooms c.args.number) (sym (open_is identities c.args.self.now rooms tie c.args.number) ∙ sym c.contains.ensures ∙ c.if-contains.false)) d)
    (c.open.ensures identities rooms tie)
