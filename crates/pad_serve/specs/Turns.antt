-- How many calls of `next` a run makes, and the line that tells it.
use Rattle.std.specs.Prelude.{◌≡◌, ◌≤◌, ◌⊎◌, ℕ, List, [], ◌∷◌, ◌++◌, codes, decimal}
use Rattle.pad_edge.specs.declared.port_event.PortEvent.{PortEvent}
use Rattle.serve_loop.specs.Run.{IsTurns}

-- the line that tells how many were made
abbrev pub turns_text : (made : ℕ) → List ℕ
turns_text made = codes "turns " ++ (decimal made ++ 10 ∷ [])

-- So many were made: all of the turns, or fewer if the port ended. If the port tells, so many events were given, of which `Ended` is the last at most, and
-- none where all turns were made without it.
pub record IsMade (turns : ℕ) (has_ended : Type 0) (port_tells : Type 0) (events_before events_now : List PortEvent) (made : ℕ) : Type 0 where
  pub few : made ≤ turns
  pub all : (made ≡ turns) ⊎ has_ended
  pub counted : port_tells → (events : List PortEvent) × (events_now ≡ events_before ++ events) × IsTurns turns made events
