use Rattle.std.proofs.Common.{◌≡◌, ◌≤◌, ◌-◌, ◌∷◌, ◌++◌, [], length, take}
use Rattle.log_format.specs.File.{entries}
use Rattle.log_format.specs.Frames.{sizes_of}
use Rattle.log_format.proofs.frames.Frames.build.Given as goal

abbrev pub invariant-loop-at : goal.invariant-loop-at
invariant-loop-at l = record {
  bytes : 1 ∷ l.bytes.items ≡ entries (take l.at l.all) ++ 1 ∷ [];
  sizes : l.sizes.items ≡ sizes_of (take l.at l.all);
  within : l.at ≤ length l.all;
}

abbrev pub decreases-loop-at : goal.decreases-loop-at
decreases-loop-at l = length l.all - l.at
