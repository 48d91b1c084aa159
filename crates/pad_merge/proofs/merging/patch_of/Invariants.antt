-- the operations so far, and those of the rest
use Rattle.std.proofs.Common.{◌≡◌, ◌++◌, [], map, drop}
use Rattle.pad_text.specs.Text.{IsText}
use Rattle.pad_merge.specs.UnitSource.{IsAscending}
use Rattle.pad_merge.specs.CopiedUnit.{source_of, new_or_letter}
use Rattle.pad_merge.specs.Merge.{operations_between}
use Rattle.pad_merge.proofs.merging.patch_of.Given as goal

abbrev pub invariant-loop-unit : goal.invariant-loop-unit
invariant-loop-unit l =
    let left = map source_of (drop l.unit-index l.units) in
    record {
      read : l.gaps.ops.items ++ operations_between l.gaps.place l.gaps.inserted.items l.len left ≡ operations_between 0 [] l.len (map source_of l.units);
      rising : IsAscending l.gaps.place l.len left;
      text : IsText (l.gaps.inserted.items ++ map new_or_letter left);
    }
