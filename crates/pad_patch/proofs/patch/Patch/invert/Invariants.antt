-- the inverse of the operations so far is built, and the text after them is known
use Rattle.std.proofs.Common.{◌≡◌, ℕ, ◌<◌, ◌++◌, drop}
use Rattle.std.specs.Prelude.{Some, slice_get}
use Rattle.pad_text.specs.Text.{IsText}
use Rattle.pad_patch.specs.declared.operation.Operation.{Operation}
use Rattle.pad_patch.specs.Piece.{text_after}
use Rattle.pad_patch.specs.Inverse.{inverse_operations}
use Rattle.pad_patch.proofs.Inverses.{IsInverting}
use Rattle.pad_patch.proofs.patch.Patch.invert.Given as goal

abbrev pub invariant-loop-op : goal.invariant-loop-op
invariant-loop-op g l =
    let text = g.S.UnitStore.units l.text in
    let left = drop l.op-index l.op-items in
    record {
      built : l.ops.items ++ inverse_operations l.inserted l.removed text left ≡ inverse_operations 0 0 text l.self.ops;
      state : IsInverting text (text_after l.self text) l.inserted l.removed left;
      texts : (index : ℕ) (operation : Operation) → index < l.op-index → slice_get l.op-items index ≡ Some operation → IsText operation.insert;
    }
