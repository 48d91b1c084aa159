-- Ranges of the units of a text.
use Rattle.std.specs.Prelude.{ℕ, ◌-◌, ◌≤◌, List, ◌++◌, length, take, drop}
use Rattle.pad_text.specs.Text.{CutsPair}

-- a range lies in the units, and neither end of it cuts a pair
pub record IsRange (units : List ℕ) (from to : ℕ) : Type 0 where
  pub ordered : from ≤ to
  pub inside : to ≤ length units
  pub starts_whole : ¬ (CutsPair units from)
  pub ends_whole : ¬ (CutsPair units to)

-- the units from one place to another
abbrev pub between : ℕ → ℕ → List ℕ → List ℕ
between from to units = take (to - from) (drop from units)

-- the units with other units in place of those from one place to another
abbrev pub replaced : ℕ → ℕ → List ℕ → List ℕ → List ℕ
replaced from to insert units = take from units ++ insert ++ drop to units
