-- the new units so far, and those of the rest
use Rattle.std.proofs.Common.{◌≡◌, ◌+◌, ◌-◌, ◌++◌, map, drop, length}
use Rattle.pad_merge.specs.UnitSource.{new_unit}
use Rattle.pad_merge.specs.Origin.{numbered}
use Rattle.pad_merge.specs.CopiedUnit.{source_of, origin_of, origin_in}
use Rattle.pad_merge.proofs.merging.push_new.Given as goal

abbrev pub invariant-loop-index : goal.invariant-loop-index
invariant-loop-index l = record {
  sources : map source_of l.copy.items ++ map new_unit (drop l.index l.units) ≡ map source_of l.fn.copy.items ++ map new_unit l.units;
  origins : map origin_of l.copy.items ++ numbered (origin_in l.side) (l.inserted + l.index) (length l.units - l.index)
      ≡ map origin_of l.fn.copy.items ++ numbered (origin_in l.side) l.inserted (length l.units);
}
