-- the operations left are turned if all are, and stand behind what was removed
use Rattle.std.proofs.Common.{◌↔◌, ◌<◌, ◌^◌, drop}
use Rattle.pad_patch.proofs.CallerLemmas.{IsLaid}
use Rattle.pad_merge.specs.Merge.{AreTurned}
use Rattle.pad_merge.proofs.checking.are_turned.Given as goal

abbrev pub invariant-loop-op : goal.invariant-loop-op
invariant-loop-op l =
    let ops = drop l.op-index l.op-items in
    record {
      laid_out : IsLaid l.removed l.len ops;
      small : l.inserted < 2 ^ 33;
      turned : AreTurned l.inserted l.removed ops l.left ↔ AreTurned 0 0 l.p.ops l.back.ops;
    }
