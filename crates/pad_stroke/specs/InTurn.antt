-- Two works, the second one on the text after the first, as one.
use Rattle.std.specs.Prelude.{ℕ, ◌<◌, List, map, slice_index_or}
use Rattle.pad_merge.specs.declared.origin.Origin.{Origin}
use Rattle.pad_merge.specs.declared.origin.Origin.TheVariants.{First, Second}
use Rattle.pad_merge.specs.Merge.{merged}
use Rattle.pad_merge.specs.Origin.{origins}
use Rattle.pad_stroke.specs.declared.mark.Mark.{Mark}
use Rattle.pad_stroke.specs.Work.{Marked}

-- what is read past the end of a list of marks
abbrev pub no_mark : Mark
no_mark = record { stroke = 0; index = 0 }

-- the mark of a unit that a merge inserts: the one that it has where it comes from
abbrev pub mark_from : List Mark → List Mark → Origin → Mark
mark_from first second (First place) = slice_index_or first place no_mark
mark_from first second (Second place) = slice_index_or second place no_mark

-- the origin names a unit, where the first patch inserts so many units and the second one so many
abbrev pub NamesUnit : ℕ → ℕ → Origin → Type 0
NamesUnit first second (First place) = place < first
NamesUnit first second (Second place) = place < second

-- the merge of the patches, each unit with the mark that it had; the first one is on a text of `size` units
unfoldable pub in_turn : Marked → Marked → ℕ → Marked
in_turn first second size = record {
  patch = merged first.patch second.patch size;
  marks = map (mark_from first.marks second.marks) (origins first.patch second.patch size);
}
