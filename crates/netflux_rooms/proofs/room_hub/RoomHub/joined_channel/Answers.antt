use Rattle.std.proofs.Common.{◌∙◌, ap, sym, Some}
use Rattle.std.proofs.lemmas.Bool.{false≢true}
use Rattle.netflux_rooms.specs.Rooms.{has_joined}
use Rattle.netflux_rooms.proofs.Ties.{joined_is, not_joined}
use Rattle.netflux_rooms.proofs.Targets.{chosen_none, chosen_some}
use Rattle.netflux_rooms.proofs.room_hub.RoomHub.joined_channel.Goals as goal

pub returns-in-None : goal.returns-in-None
returns-in-None c = λ identities rooms tie. chosen_none (has_joined rooms c.args.number c.args.text.now) c.args.text.now
    (not_joined rooms.joined c.args.number c.args.text.now tie.digits (λ d. absurd (false≢true (c.in-None.ensures.found.1 d))))

pub returns-then-contains : goal.returns-then-contains
returns-then-contains c = λ identities rooms tie.
    ap Some c.in-Some.ensures.value ∙ chosen_some (has_joined rooms c.args.number c.args.text.now) c.args.text.now
    (ap (λ t. has_joined rooms c.args.number t) (sym c.in-Some.ensures.value) ∙ sym (joined_is identities c.args.self.now rooms tie c.args.number c.in-Some.channel) ∙ sym c.contains.ensures ∙ c.if-contains.true)

pub returns-else-contains : goal.returns-else-contains
returns-else-contains c = λ identities rooms tie.
    chosen_none (has_joined rooms c.args.number c.args.text.now) c.args.text.now
    (ap (λ t. has_joined rooms c.args.number t) (sym c.in-Some.ensures.value) ∙ sym (joined_is identities c.args.self.now rooms tie c.args.number c.in-Some.channel) ∙ sym c.contains.ensures ∙ c.if-contains.false)
