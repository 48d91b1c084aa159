-- the units so far
use Rattle.std.proofs.Common.{◌≡◌, length, take, flat_map}
use Rattle.pad_patch.specs.declared.operation.Operation.{Operation}
use Rattle.pad_stroke.proofs.work.tests.inserted_units.Given as goal

abbrev pub invariant-loop-op : goal.invariant-loop-op
invariant-loop-op l = l.units ≡ length (flat_map (λ (operation : Operation). operation.insert) (take l.op-index l.patch.ops))
