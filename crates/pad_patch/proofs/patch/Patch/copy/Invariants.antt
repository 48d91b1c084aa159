-- the operations so far, whose insertions are texts
use Rattle.std.proofs.Common.{◌≡◌, take}
use Rattle.std.specs.List.{All}
use Rattle.pad_text.specs.Text.{IsText}
use Rattle.pad_patch.proofs.patch.Patch.copy.Given as goal

abbrev pub invariant-loop-op : goal.invariant-loop-op
invariant-loop-op l = record {
  whole : l.ops.items ≡ take l.op-index l.self.ops;
  texts : All (λ operation. IsText operation.insert) (take l.op-index l.self.ops);
}
