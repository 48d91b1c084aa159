use Rattle.std.proofs.Common.{◌≡◌, drop}
use Rattle.std.specs.Prelude.{Some}
use Rattle.std.specs.List.{All}
use Rattle.pad_text.specs.Text.{IsText}
use Rattle.pad_transform.specs.Table.{through}
use Rattle.pad_transform.proofs.patches.moved_through.Given as goal

-- the operations behind the index are done
abbrev pub invariant-loop-index : goal.invariant-loop-index
invariant-loop-index l = record {
  done : through (drop l.index l.by) l.fn.operation ≡ Some l.moved;
  texts : All (λ other. IsText other.insert) (drop l.index l.by);
}
