-- The calls of a fake in memory.
use Rattle.std.specs.Prelude.{ℕ, Bool, List, if◌then◌else◌}
use Rattle.pad_edge.specs.Count.{counted}

-- the numbers of the calls that fail, from 0, how many calls were made, and how many of them failed
pub record CallCounts : Type 0 where
  pub failing : List ℕ
  pub made : ℕ
  pub faults : ℕ

-- no call was made yet
abbrev pub no_calls : List ℕ → CallCounts
no_calls failing = record { failing = failing; made = 0; faults = 0 }

-- one more call was made, which failed or did not
abbrev pub one_more : CallCounts → Bool → CallCounts
one_more calls failed = record {
  failing = calls.failing;
  made = counted calls.made;
  faults = if failed then counted calls.faults else calls.faults;
}
