use Rattle.std.proofs.Common.{◌∙◌, ap, sym, bytes_eq}
use Rattle.std.proofs.lemmas.Bool.{false≢true}
use Rattle.netflux_rooms.specs.Machine.{target_by}
use Rattle.netflux_rooms.specs.Rooms.{named}
use Rattle.netflux_rooms.proofs.Named.{named_digits}
use Rattle.netflux_rooms.proofs.Targets.{elsewhere_named}
use Rattle.netflux_rooms.proofs.room_hub.RoomHub.elsewhere.Goals as goal

pub returns-in-Some : goal.returns-in-Some
returns-in-Some c = λ identities rooms tie.
    c.connection_of.ensures ∙ ap target_by (tie.names c.in-Some.id ∙ ap (λ t. named identities rooms.connected t) c.in-Some.ensures.value)
    ∙ sym (elsewhere_named identities rooms c.args.text.now (ap (bytes_eq c.args.text.now) (sym (c.as_str.ensures.value ∙ tie.keeper)) ∙ sym c.eq.ensures ∙ c.if-eq.false))

pub returns-in-None : goal.returns-in-None
returns-in-None c = λ identities rooms tie.
    ap target_by (sym (named_digits identities rooms.taken c.args.text.now (λ d. absurd (false≢true (c.in-None.ensures.found.1 d))) rooms.connected tie.below))
    ∙ sym (elsewhere_named identities rooms c.args.text.now (ap (bytes_eq c.args.text.now) (sym (c.as_str.ensures.value ∙ tie.keeper)) ∙ sym c.eq.ensures ∙ c.if-eq.false))
