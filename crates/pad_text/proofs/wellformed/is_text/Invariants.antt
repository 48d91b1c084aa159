use Rattle.std.proofs.Common.{◌≡◌, ◌-◌, ◌≤◌, length, drop}
use Rattle.std.specs.Char.Utf16.{has_unpaired_surrogate}
use Rattle.pad_text.proofs.wellformed.is_text.Given as goal

-- what stands before the place is in pairs
abbrev pub invariant-loop-at : goal.invariant-loop-at
invariant-loop-at l = record {
  inside : l.at ≤ length l.units;
  same : has_unpaired_surrogate (drop l.at l.units) ≡ has_unpaired_surrogate l.units;
}

abbrev pub decreases-loop-at : goal.decreases-loop-at
decreases-loop-at l = length l.units - l.at
