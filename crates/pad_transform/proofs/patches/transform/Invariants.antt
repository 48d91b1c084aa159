use Rattle.std.proofs.Common.{◌≡◌, ◌<◌, length, take}
use Rattle.std.specs.List.{filter_map}
use Rattle.pad_transform.specs.Table.{through}
use Rattle.pad_transform.proofs.Law.{AllTexts}
use Rattle.pad_transform.proofs.patches.transform.Given as goal

-- the operations before the index are done
abbrev pub invariant-loop-op : goal.invariant-loop-op
invariant-loop-op l = record {
  done : l.ops.items ≡ filter_map (through l.by.ops) (take l.op-index l.patch.ops);
  texts : 0 < length l.ops.items → AllTexts l.by.ops;
}
