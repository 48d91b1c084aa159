-- the operations that are done, and those that are left, whose marks are left
use Rattle.std.proofs.Common.{◌≡◌, ◌≤◌, ◌++◌, take, drop, length}
use Rattle.std.specs.List.{All}
use Rattle.pad_text.specs.Text.{IsText}
use Rattle.pad_patch.specs.Piece.{insertions}
use Rattle.pad_stroke.specs.Strip.{thinned}
use Rattle.pad_stroke.proofs.stripping.thin.Given as goal

abbrev pub invariant-loop-op : goal.invariant-loop-op
invariant-loop-op l =
    let rest = drop l.op-index l.ops in
    record {
      whole : take l.op-index l.ops ++ thinned l.gone rest l.left ≡ thinned l.gone l.initial.ops l.marks;
      marked : length (insertions rest) ≤ length l.left;
      texts : All (λ operation. IsText operation.insert) (thinned l.gone rest l.left);
    }
