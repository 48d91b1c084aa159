-- Numbers that events open.
use Rattle.std.proofs.Common.{◌≡◌, ◌∙◌, ℕ, zero, suc, ◌==◌, Bool, true, false, ◌||◌, List, [], ◌∷◌, ◌++◌, take, refl, sym, ap, subst}
use Rattle.std.specs.List.{list_any}
use Rattle.pad_edge.specs.Port.{opened, OpensOnce}
use Rattle.pad_edge.specs.declared.port_event.PortEvent.{PortEvent}
use Rattle.pad_edge.specs.declared.port_event.PortEvent.TheVariants as event

-- what none of them opens none of the first opens
none_front : (connection size : ℕ) (events : List PortEvent) → list_any (λ one. one == connection) (opened events) ≡ false
    → list_any (λ one. one == connection) (opened (take size events)) ≡ false
none_front connection zero events none = refl
none_front connection (suc size) [] none = refl
none_front connection (suc size) (event.Opened other ∷ events) none =
    elim (other == connection) as (λ (b : Bool). (b || list_any (λ one. one == connection) (opened events)) ≡ false → (b || list_any (λ one. one == connection) (opened (take size events))) ≡ false) [
      | true ↦ λ some. some
      | false ↦ λ rest. none_front connection size events rest
    ] none
none_front connection (suc size) (event.Text other text ∷ events) none = none_front connection size events none
none_front connection (suc size) (event.Closed other ∷ events) none = none_front connection size events none
none_front connection (suc size) (event.Idle ∷ events) none = none_front connection size events none
none_front connection (suc size) (event.Ended ∷ events) none = none_front connection size events none

-- the first of them open no number twice
pub once_front : (size : ℕ) (events : List PortEvent) → OpensOnce events → OpensOnce (take size events)
once_front zero events once = tt
once_front (suc size) [] once = tt
once_front (suc size) (event.Opened other ∷ events) once = (none_front other size events once.0, once_front size events once.1)
once_front (suc size) (event.Text other text ∷ events) once = once_front size events once
once_front (suc size) (event.Closed other ∷ events) once = once_front size events once
once_front (suc size) (event.Idle ∷ events) once = once_front size events once
once_front (suc size) (event.Ended ∷ events) once = once_front size events once

-- an end opens nothing
end_opens : (events : List PortEvent) → opened (events ++ event.Ended ∷ []) ≡ opened events
end_opens [] = refl
end_opens (event.Opened other ∷ events) = ap (λ (l : List ℕ). other ∷ l) (end_opens events)
end_opens (event.Text other text ∷ events) = end_opens events
end_opens (event.Closed other ∷ events) = end_opens events
end_opens (event.Idle ∷ events) = end_opens events
end_opens (event.Ended ∷ events) = end_opens events

pub once_pushed : (events : List PortEvent) → OpensOnce events → OpensOnce (events ++ event.Ended ∷ [])
once_pushed [] once = tt
once_pushed (event.Opened other ∷ events) once = (ap (list_any (λ one. one == other)) (end_opens events) ∙ once.0, once_pushed events once.1)
once_pushed (event.Text other text ∷ events) once = once_pushed events once
once_pushed (event.Closed other ∷ events) once = once_pushed events once
once_pushed (event.Idle ∷ events) once = once_pushed events once
once_pushed (event.Ended ∷ events) once = once_pushed events once
