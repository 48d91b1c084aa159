-- the operations so far, the last one and those that are left
use Rattle.std.proofs.Common.{◌≡◌, ◌++◌, ◌<◌, ◌^◌}
use Rattle.std.specs.List.{All}
use Rattle.std.specs.Vec.Iter.{into_iter_items}
use Rattle.pad_stroke.specs.Through.{in_front, joined}
use Rattle.pad_stroke.proofs.joining.join_touching.Given as goal

abbrev pub invariant-loop-op : goal.invariant-loop-op
invariant-loop-op l =
    let joints = in_front l.last (joined (into_iter_items l.op-iterator)) in
    record {
      whole : l.done.items ++ joints ≡ joined l.fn.ops;
      small : All (λ operation. operation.remove < 2 ^ 32) joints;
    }
