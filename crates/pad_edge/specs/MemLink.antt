-- What contracts see of a link in memory.
use Rattle.std.specs.Prelude.{ℕ, List, [], ◌∷◌}
use Rattle.pad_edge.specs.Calls.{CallCounts}
use Rattle.pad_edge.specs.declared.arrival.Arrival.{Arrival}
use Rattle.pad_edge.specs.declared.arrival.Arrival.TheVariants.{Text, Ended}

-- the texts given so far and those still to come, the texts sent so far, how often it ended, and the calls
pub record LinkSoFar : Type 0 where
  pub heard : List (List ℕ)
  pub coming : List (List ℕ)
  pub sent : List (List ℕ)
  pub ends : ℕ
  pub calls : CallCounts

-- what it gives next: the first text that is still to come, and `Ended` if none is
abbrev pub next_arrival : List (List ℕ) → Arrival
next_arrival [] = Ended
next_arrival (text ∷ texts) = Text text
