-- the operations from this one on have been applied
use Rattle.std.proofs.Common.{◌≡◌, drop}
use Rattle.pad_patch.proofs.Copies.{copy_from}
use Rattle.pad_patch.proofs.patch.Patch.apply.Given as goal

abbrev pub invariant-loop-index : goal.invariant-loop-index
invariant-loop-index g l =
    g.S.UnitStore.units l.after ≡ copy_from (g.S.UnitStore.units l.text) 0 (drop l.index l.ops)
