-- What contracts see of a link over TCP.
use Rattle.std.specs.Prelude.{ℕ}

-- how many calls failed, how often it ended, and how many texts it gave
pub record LinkCounts : Type 0 where
  pub faults : ℕ
  pub ends : ℕ
  pub given : ℕ
