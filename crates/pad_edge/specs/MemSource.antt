-- What contracts see of a source in memory.
use Rattle.std.specs.Prelude.{ℕ, List}
use Rattle.pad_edge.specs.Calls.{CallCounts}

-- the bytes still to come, the most that one read takes, and the calls
pub record Reading : Type 0 where
  pub left : List ℕ
  pub piece : ℕ
  pub calls : CallCounts
