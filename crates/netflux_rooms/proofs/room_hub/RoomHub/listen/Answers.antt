use Rattle.std.proofs.Common.{◌∙◌, sym}
use Rattle.std.proofs.lemmas.Result.{IfOk-weaker}
use Rattle.netflux_rooms.specs.Rooms.{is_open}
use Rattle.netflux_rooms.specs.Machine.{Hears, Gives}
use Rattle.netflux_rooms.proofs.Ties.{open_is}
use Rattle.netflux_rooms.proofs.Chosen.{match_here, match_there}
use Rattle.netflux_rooms.proofs.room_hub.RoomHub.listen.Goals as goal

pub returns-then-contains : goal.returns-then-contains
returns-then-contains c = λ identities rooms tie.
    IfOk-weaker c.hear.result (λ heard. Hears identities rooms c.args.number c.args.text.now (Gives identities rooms heard c.hear.new.self)) _
    (λ heard d. match_here (is_open rooms c.args.number) _ _ (sym (open_is identities c.args.self.now rooms tie c.args.number) ∙ sym c.contains.ensures ∙ c.if-contains.true) d)
    (c.hear.ensures identities rooms tie)

pub returns : goal.returns
returns c = λ identities rooms tie.
    match_there (is_open rooms c.args.number) _ _ (sym (open_is identities c.args.self.now rooms tie c.args.number) ∙ sym c.contains.ensures ∙ c.if-contains.false)
    (c.new.ensures.items, tie)
