-- the units so far, and those of the rest
use Rattle.std.proofs.Common.{◌≡◌, ◌-◌, ◌++◌, None, map, replicate}
use Rattle.pad_merge.specs.UnitSource.{kept_from}
use Rattle.pad_merge.specs.CopiedUnit.{source_of, origin_of}
use Rattle.pad_merge.proofs.merging.kept.Given as goal

abbrev pub invariant-loop-place : goal.invariant-loop-place
invariant-loop-place l = record {
  sources : map source_of l.units.items ++ kept_from l.place (l.len - l.place) ≡ kept_from 0 l.len;
  origins : map origin_of l.units.items ++ replicate (l.len - l.place) None ≡ replicate l.len None;
}
