-- Counts of calls. At 2^64 - 1 they stay.
use Rattle.std.specs.Prelude.{◌≡◌, ℕ}
use Rattle.pad_edge.specs.Count.{counted}

-- the count rose by one, or is at 2^64 - 1
abbrev pub Ticked : ℕ → ℕ → Type 0
Ticked before now = now ≡ counted before
