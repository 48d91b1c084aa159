use Rattle.std.proofs.Common.{◌∙◌, sym, []}
use Rattle.std.proofs.lemmas.Result.{IfOk-weaker}
use Rattle.netflux_rooms.specs.Rooms.{is_open, closed}
use Rattle.netflux_rooms.specs.Tables.{Done}
use Rattle.netflux_rooms.proofs.Ties.{done_by, open_is}
use Rattle.netflux_rooms.proofs.Chosen.{chosen_here, chosen_there}
use Rattle.netflux_rooms.proofs.room_hub.RoomHub.let_go.Goals as goal

pub returns-then-contains : goal.returns-then-contains
returns-then-contains c = λ identities rooms tie.
    IfOk-weaker c.close.result (λ outs. Done identities (closed identities rooms c.args.number) outs.items c.close.new.self) _
    (λ outs d. done_by identities _ (closed identities rooms c.args.number) outs.items c.close.new.self
    (chosen_here (is_open rooms c.args.number) (closed identities rooms c.args.number) ([], rooms) (sym (open_is identities c.args.self.now rooms tie c.args.number) ∙ sym c.contains.ensures ∙ c.if-contains.true)) d)
    (c.close.ensures identities rooms tie)

pub returns : goal.returns
returns c = λ identities rooms tie.
    done_by identities _ ([], rooms) _ c.args.self.now
    (chosen_there (is_open rooms c.args.number) (closed identities rooms c.args.number) ([], rooms) (sym (open_is identities c.args.self.now rooms tie c.args.number) ∙ sym c.contains.ensures ∙ c.if-contains.false))
    (c.new.ensures.items, tie)
