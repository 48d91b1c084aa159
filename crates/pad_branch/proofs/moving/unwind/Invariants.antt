use Rattle.std.proofs.Common.{◌≡◌, ◌-◌, ◌≤◌, List, ◌++◌, map, reverse, vec_len, vec_capacity}
use Rattle.pad_branch.specs.declared.undo.Undo.{Undo}
use Rattle.pad_branch.specs.Move.{move_back}
use Rattle.pad_branch.proofs.moving.unwind.Given as goal

abbrev pub decreases-loop-undos : goal.decreases-loop-undos
decreases-loop-undos l = vec_len l.undos

abbrev pub invariant-loop-undos : goal.invariant-loop-undos
invariant-loop-undos l = record {
  left : (rest : List Undo) × (l.initial.undos.items ≡ l.undos.items ++ rest) × (l.reverted.items ≡ l.initial.reverted.items ++ map move_back (reverse rest));
  keep : l.keep ≤ vec_len l.undos;
  room : vec_capacity l.undos ≡ vec_capacity l.initial.undos;
  reserved : vec_len l.undos - l.keep ≤ vec_capacity l.reverted - vec_len l.reverted;
}
