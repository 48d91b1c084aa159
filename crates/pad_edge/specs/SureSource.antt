-- What contracts see of a source in memory whose reads never fail.
use Rattle.std.specs.Prelude.{ℕ, List}

-- the bytes still to come, and the most that one read takes
pub record SureReading : Type 0 where
  pub left : List ℕ
  pub piece : ℕ
