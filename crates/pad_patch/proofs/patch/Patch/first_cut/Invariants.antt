-- no operation before this one cuts a pair
use Rattle.std.proofs.Common.{ℕ, ◌<◌}
use Rattle.pad_patch.specs.Misfit.{CutsPairAt}
use Rattle.pad_patch.proofs.patch.Patch.first_cut.Given as goal

abbrev pub invariant-loop-index : goal.invariant-loop-index
invariant-loop-index g l = (earlier : ℕ) → earlier < l.index → ¬ (CutsPairAt l.self (g.S.UnitStore.units l.text) earlier)
