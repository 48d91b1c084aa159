-- no operation before this one ends too late
use Rattle.std.proofs.Common.{ℕ, ◌<◌}
use Rattle.pad_patch.specs.Misfit.{EndsAfter}
use Rattle.pad_patch.proofs.patch.Patch.first_past.Given as goal

abbrev pub invariant-loop-index : goal.invariant-loop-index
invariant-loop-index l = (earlier : ℕ) → earlier < l.index → ¬ (EndsAfter l.self l.size earlier)
