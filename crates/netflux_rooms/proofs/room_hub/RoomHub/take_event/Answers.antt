use Rattle.std.proofs.Common.{subst, sym, List, ℕ, []}
use Rattle.std.specs.Prelude.{MatchBool}
use Rattle.netflux_rooms.specs.Rooms.{is_open}
use Rattle.netflux_rooms.specs.Machine.{Hears, Gives, made, Steps}
use Rattle.serve_loop.specs.declared.event.Event.{Event}
use Rattle.netflux_rooms.proofs.room_hub.RoomHub.take_event.Goals as goal

pub returns-in_ok-heard-in-Text : goal.returns-in_ok-heard-in-Text
returns-in_ok-heard-in-Text c = λ identities rooms tie.
    subst (λ (e : Event). Steps identities rooms e (Gives identities rooms c.in_ok-heard-in-Text.heard c.listen.new.self)) (sym c.in-Text.is)
    (subst (λ (t : List ℕ). MatchBool (is_open rooms c.in-Text.number) (Hears identities rooms c.in-Text.number t (Gives identities rooms c.in_ok-heard-in-Text.heard c.listen.new.self)) (Gives identities rooms c.in_ok-heard-in-Text.heard c.listen.new.self (made ([], rooms))))
    c.as_str.ensures (c.in_ok-heard-in-Text.ensures identities rooms tie))
