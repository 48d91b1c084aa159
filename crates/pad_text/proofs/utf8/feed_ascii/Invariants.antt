use Rattle.std.proofs.Common.{ℕ, ◌-◌, ◌≤◌, List, ◌++◌, length, take}
use Rattle.sha2.specs.Hashers.{Holds256}
use Rattle.pad_text.proofs.utf8.feed_ascii.Given as goal

-- the units so far are behind what the hasher held
abbrev pub invariant-loop-fed : goal.invariant-loop-fed
invariant-loop-fed l = record {
  inside : l.fed ≤ length l.units;
  held : (message : List ℕ) → Holds256 l.initial.hasher message → Holds256 l.hasher (message ++ take l.fed l.units);
}

abbrev pub decreases-loop-fed : goal.decreases-loop-fed
decreases-loop-fed l = length l.units - l.fed
