-- What contracts see of a sink in memory.
use Rattle.std.specs.Prelude.{ℕ, List}
use Rattle.pad_edge.specs.Calls.{CallCounts}

-- the bytes written so far, how many more it has room for, the most that one write takes, and the calls
pub record Writing : Type 0 where
  pub written : List ℕ
  pub room : ℕ
  pub piece : ℕ
  pub calls : CallCounts
