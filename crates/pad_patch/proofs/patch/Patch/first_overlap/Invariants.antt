-- no operation before this one starts too early
use Rattle.std.proofs.Common.{ℕ, ◌<◌}
use Rattle.pad_patch.specs.Misfit.{Overlaps}
use Rattle.pad_patch.proofs.patch.Patch.first_overlap.Given as goal

abbrev pub invariant-loop-index : goal.invariant-loop-index
invariant-loop-index l = (earlier : ℕ) → earlier < l.index → ¬ (Overlaps l.self earlier)
