-- What contracts see of a listener with its connections.
use Rattle.std.specs.Prelude.{ℕ}

-- from which number on no connection was given one, and how often the next event was asked for, as far as that can be counted
pub record ServerCounts : Type 0 where
  pub next_number : ℕ
  pub turn : ℕ
