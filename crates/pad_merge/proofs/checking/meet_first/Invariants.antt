-- each operation so far meets the first patch
use Rattle.std.proofs.Common.{ℕ, ◌≡◌, ◌<◌}
use Rattle.std.specs.Prelude.{Some, slice_get}
use Rattle.pad_patch.specs.declared.operation.Operation.{Operation}
use Rattle.pad_merge.specs.Inside.Meeting.{MeetsFirst}
use Rattle.pad_merge.proofs.checking.meet_first.Given as goal

abbrev pub invariant-loop-op : goal.invariant-loop-op
invariant-loop-op l = (index : ℕ) (operation : Operation) → index < l.op-index → slice_get l.op-items index ≡ Some operation → MeetsFirst l.p l.len operation
