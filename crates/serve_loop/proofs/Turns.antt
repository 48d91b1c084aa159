-- The events that a port gave, and its end.
use Rattle.std.proofs.Common.{◌≡◌, ◌∙◌, ℕ, zero, suc, ◌+◌, ◌<◌, ◌≤◌, true, false, List, [], ◌∷◌, ◌++◌, length, refl, sym, ap, arith}
use Rattle.std.specs.Prelude.{slice_get, Some, Ok}
use Rattle.std.proofs.lemmas.List.{length-append}
use Rattle.pad_edge.specs.declared.port_event.PortEvent.{PortEvent}
use Rattle.pad_edge.specs.declared.port_event.PortEvent.TheVariants as given
use Rattle.pad_edge.specs.Port.{is_port_end}
use Rattle.serve_loop.specs.Run.{AreCalls, IsTurns}

pub is_end : (event : PortEvent) → is_port_end (Ok event) ≡ true → event ≡ given.Ended
is_end (given.Opened connection) is = cc
is_end (given.Text connection text) is = cc
is_end (given.Closed connection) is = cc
is_end given.Idle is = cc
is_end given.Ended is = refl

pub not_end : (event : PortEvent) → is_port_end (Ok event) ≡ false → event ≡ given.Ended → ⊥
not_end event is same = let no : true ≡ false = ap (λ (e : PortEvent). is_port_end (Ok e)) (sym same) ∙ is in cc

pub none_pushed : (events : List PortEvent) (event : PortEvent) → ((place : ℕ) → slice_get events place ≡ Some given.Ended → ⊥) → is_port_end (Ok event) ≡ false
    → (place : ℕ) → slice_get (events ++ event ∷ []) place ≡ Some given.Ended → ⊥
none_pushed [] event none is zero got = let same : event ≡ given.Ended = cc in not_end event is same
none_pushed [] event none is (suc place) got = cc
none_pushed (first ∷ events) event none is zero got = none zero got
none_pushed (first ∷ events) event none is (suc place) got = none_pushed events event (λ p h. none (suc p) h) is place got

end_place : (events : List PortEvent) (event : PortEvent) → ((place : ℕ) → slice_get events place ≡ Some given.Ended → ⊥)
    → (place : ℕ) → slice_get (events ++ event ∷ []) place ≡ Some given.Ended → place ≡ length events
end_place [] event none zero got = refl
end_place [] event none (suc place) got = cc
end_place (first ∷ events) event none zero got = absurd (none zero got)
end_place (first ∷ events) event none (suc place) got = ap suc (end_place events event (λ p h. none (suc p) h) place got)

last_there : (events : List PortEvent) (event : PortEvent) → slice_get (events ++ event ∷ []) (length events) ≡ Some event
last_there [] event = refl
last_there (first ∷ events) event = last_there events event

pub turns_ended : (turns turn : ℕ) (events : List PortEvent) (event : PortEvent) → turn < turns → length events ≡ turn → ((place : ℕ) → slice_get events place ≡ Some given.Ended → ⊥) → is_port_end (Ok event) ≡ true
    → IsTurns turns (turn + 1) (events ++ event ∷ [])
turns_ended turns turn events event within count none is = record {
  few = omega arith;
  counted = omega (arith, length-append events (event ∷ []));
  ended = λ place got. let there : place ≡ length events = end_place events event none place got in omega arith;
  whole = λ never. absurd (never (length events) (last_there events event ∙ ap Some (is_end event is)));
}

-- all of the turns were made, without an `Ended`
pub turns_all : (turns made : ℕ) (events : List PortEvent) → made ≡ turns → length events ≡ made → ((place : ℕ) → slice_get events place ≡ Some given.Ended → ⊥) → IsTurns turns made events
turns_all turns made events is count none = record {
  few = omega arith;
  counted = sym count;
  ended = λ place got. absurd (none place got);
  whole = λ never. is;
}

-- one more event, whatever it is
pub calls_one : (turns turn : ℕ) (events : List PortEvent) (event : PortEvent) → turn < turns → length events ≡ turn → ((place : ℕ) → slice_get events place ≡ Some given.Ended → ⊥) → AreCalls turns (events ++ event ∷ [])
calls_one turns turn events event within count none = record {
  few = omega (arith, length-append events (event ∷ []));
  ended = λ place got. let there : place ≡ length events = end_place events event none place got in omega (arith, length-append events (event ∷ []));
}

-- no event more
pub calls_none : (turns turn : ℕ) (events : List PortEvent) → turn ≤ turns → length events ≡ turn → ((place : ℕ) → slice_get events place ≡ Some given.Ended → ⊥) → AreCalls turns events
calls_none turns turn events within count none = record {
  few = omega arith;
  ended = λ place got. absurd (none place got);
}
