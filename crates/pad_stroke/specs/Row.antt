-- Which mark each unit of a text has.
use Rattle.std.specs.Prelude.{◌≡◌, ℕ, List, map, replicate, slice_get, Option, Some, None}
use Rattle.pad_patch.specs.declared.patch.Patch.{Patch}
use Rattle.pad_patch.specs.Piece.{patched}
use Rattle.pad_patch.specs.Removed.{Removes}
use Rattle.pad_stroke.specs.declared.mark.Mark.{Mark}
use Rattle.pad_stroke.specs.Work.{Marked}

-- the row of a text: for each unit its mark, or nothing
abbrev pub Row : Type 0
Row = List (Option Mark)

-- the row of a text of `size` units of which none has a mark
abbrev pub no_marks : ℕ → Row
no_marks size = replicate size None

-- the row of the text after a patch whose inserted units have these entries
abbrev pub row_after : Patch → Row → Row → Row
row_after patch entries row = patched patch entries row

-- the row of the shown text, which is the text with the work applied, over the row of the text
abbrev pub shown_row : Marked → Row → Row
shown_row work row = row_after work.patch (map Some work.marks) row

-- the patch removes a unit with this mark
abbrev pub IsRemovedFrom : Patch → Row → Mark → Type 0
IsRemovedFrom patch row mark = (place : ℕ) × Removes patch place × (slice_get row place ≡ Some (Some mark))
