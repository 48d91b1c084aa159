-- What becomes of marks and of removals as works are taken back, carried and stripped.
use Rattle.std.specs.Prelude.{◌≡◌, ℕ, ◌+◌, ◌≤◌, ◌⊎◌, ◌↔◌, List, [], length, map, Some, count_by, Contains, All}
use Rattle.pad_text.specs.Text.{IsText}
use Rattle.pad_text.specs.declared.name.Name.{Name}
use Rattle.pad_patch.specs.declared.operation.Operation.{Operation}
use Rattle.pad_patch.specs.declared.patch.Patch.{Patch}
use Rattle.pad_patch.specs.Piece.{inserted, text_after}
use Rattle.pad_patch.specs.Inverse.{inverse}
use Rattle.pad_patch.specs.Misfit.{Overlaps, EndsAfter, CanApply}
use Rattle.pad_patch.specs.Removed.{Removes, removed_by}
use Rattle.pad_transform.specs.Carried.{BothApply, RemovesOnlyKept}
use Rattle.pad_stroke.specs.declared.mark.Mark.{Mark}
use Rattle.pad_stroke.specs.Work.{Marked, moved_to}
use Rattle.pad_stroke.specs.Row.{Row, no_marks, row_after, shown_row, IsRemovedFrom}
use Rattle.pad_stroke.specs.InTurn.{in_turn}
use Rattle.pad_stroke.specs.Through.{carried}
use Rattle.pad_stroke.specs.Strip.{same_mark, stripped}
use Rattle.pad_stroke.specs.Laws.{somes}

-- there is one mark for each unit that the work inserts
abbrev pub IsCounted : Marked → Type 0
IsCounted work = length work.marks ≡ length (inserted work.patch)

-- how often a mark stands in a list
abbrev pub how_often : Mark → List Mark → ℕ
how_often mark marks = count_by (λ other. same_mark other mark) marks

-- two works in turn, on a text with this row
pub record InTurnOn (first second : Marked) (text : List ℕ) (row : Row) : Type 0 where
  pub long : length row ≡ length text
  pub first_applies : CanApply first.patch text
  pub second_applies : CanApply second.patch (text_after first.patch text)
  pub first_counted : IsCounted first
  pub second_counted : IsCounted second

-- the row after two works in turn is the row after the first one and then the second one
abbrev pub TurnRow : Type 0
TurnRow =
    (first second : Marked) (text : List ℕ) (row : Row) → InTurnOn first second text row
    → shown_row (in_turn first second (length text)) row ≡ shown_row second (shown_row first row)

-- a mark of the first work stays, or the second one removes its unit
abbrev pub FirstMarksStay : Type 0
FirstMarksStay =
    (first second : Marked) (text : List ℕ) (row : Row) (mark : Mark) → InTurnOn first second text row → Contains first.marks mark
    → Contains (in_turn first second (length text)).marks mark ⊎ IsRemovedFrom second.patch (shown_row first row) mark

-- what two works in turn remove of a text is what the first one removes of it and what the second one removes of the rest
abbrev pub TurnRemoves : Type 0
TurnRemoves =
    (first second : Marked) (text : List ℕ) (row : Row) (mark : Mark) → InTurnOn first second text row → IsRemovedFrom (in_turn first second (length text)).patch row mark
    → IsRemovedFrom first.patch row mark ⊎ IsRemovedFrom second.patch (shown_row first row) mark

-- exactly: what the second one removes of the rest it removes of the row in which the units of the first one have no marks
abbrev pub TurnRemovesJust : Type 0
TurnRemovesJust =
    (first second : Marked) (text : List ℕ) (row : Row) (mark : Mark) → InTurnOn first second text row
    → IsRemovedFrom (in_turn first second (length text)).patch row mark
    ↔ (IsRemovedFrom first.patch row mark ⊎ IsRemovedFrom second.patch (row_after first.patch (no_marks (length (inserted first.patch))) row) mark)

abbrev pub TurnApplies : Type 0
TurnApplies = (first second : Marked) (text : List ℕ) (row : Row) → InTurnOn first second text row → CanApply (in_turn first second (length text)).patch text

abbrev pub TurnCounted : Type 0
TurnCounted = (first second : Marked) (size : ℕ) → IsCounted (in_turn first second size)

-- two works in turn insert a mark no more often than both together
abbrev pub TurnCounts : Type 0
TurnCounts =
    (first second : Marked) (text : List ℕ) (row : Row) (mark : Mark) → InTurnOn first second text row
    → how_often mark (in_turn first second (length text)).marks ≤ how_often mark first.marks + how_often mark second.marks

-- a carried work removes only what the work removed; the units that the patch inserts have these entries
abbrev pub CarriedRemoves : Type 0
CarriedRemoves =
    (work : Marked) (by : Patch) (after : Name) (text : List ℕ) (row entries : Row) (mark : Mark) → length row ≡ length text → length entries ≡ length (inserted by)
    → BothApply work.patch by text → IsRemovedFrom (carried work by after).patch (row_after by entries row) mark → IsRemovedFrom work.patch row mark

-- and so does a work that is carried back over a patch: what comes back it does not remove
abbrev pub CarriedBackRemoves : Type 0
CarriedBackRemoves =
    (work : Marked) (by : Patch) (after : Name) (text : List ℕ) (row entries : Row) (mark : Mark) → length row ≡ length text → length entries ≡ length (inserted by)
    → CanApply by text → BothApply work.patch (inverse by text) (text_after by text)
    → IsRemovedFrom (carried work (inverse by text) after).patch row mark → IsRemovedFrom work.patch (row_after by entries row) mark

-- by places: each unit that a carried work removes is one that the patch kept and the work removed
abbrev pub CarriedRemovesKept : Type 0
CarriedRemovesKept = (work : Marked) (by : Patch) (after : Name) (text : List ℕ) → BothApply work.patch by text → RemovesOnlyKept (carried work by after).patch work.patch by text

abbrev pub CarriedApplies : Type 0
CarriedApplies =
    (work : Marked) (by : Patch) (after : Name) (text : List ℕ) → All (λ (operation : Operation). IsText operation.insert) by.ops → BothApply work.patch by text
    → CanApply (carried work by after).patch (text_after by text)

abbrev pub CarriedCounted : Type 0
CarriedCounted = (work : Marked) (by : Patch) (after : Name) → IsCounted work → IsCounted (carried work by after)

-- a carried work inserts the same units with the same marks, in the same order
abbrev pub CarriedMarks : Type 0
CarriedMarks =
    (work : Marked) (by : Patch) (after : Name) → ((carried work by after).marks ≡ work.marks) × (inserted (carried work by after).patch ≡ inserted work.patch)

-- a stripped work removes just what the work removed
abbrev pub StrippedRemoves : Type 0
StrippedRemoves = (work of : Marked) (place : ℕ) → Removes (stripped work of).patch place ↔ Removes work.patch place

abbrev pub StrippedApplies : Type 0
StrippedApplies = (work of : Marked) (text : List ℕ) → CanApply work.patch text → CanApply (stripped work of).patch text

abbrev pub StrippedCounted : Type 0
StrippedCounted = (work of : Marked) → IsCounted work → IsCounted (stripped work of)

abbrev pub StrippedCounts : Type 0
StrippedCounts = (work of : Marked) (mark : Mark) → how_often mark (stripped work of).marks ≤ how_often mark work.marks

-- the row after a patch is as long as the text after it
abbrev pub RowIsAsLong : Type 0
RowIsAsLong = (patch : Patch) (text : List ℕ) (row entries : Row) → length row ≡ length text → length entries ≡ length (inserted patch) → length (row_after patch entries row) ≡ length (text_after patch text)

-- a mark of the row after a patch is one of the row or one of the entries of what the patch inserts
abbrev pub RowMarks : Type 0
RowMarks =
    (patch : Patch) (entries row : Row) (mark : Mark) → length entries ≡ length (inserted patch) → Contains (row_after patch entries row) (Some mark)
    → Contains entries (Some mark) ⊎ Contains row (Some mark)

-- a mark stands in the row after a patch and among what the patch removes of the row as often as in the row and among the entries
abbrev pub RowCounts : Type 0
RowCounts =
    (patch : Patch) (entries row : Row) (mark : Mark) → ((index : ℕ) → ¬ (Overlaps patch index)) → ((index : ℕ) → ¬ (EndsAfter patch (length row) index)) → length entries ≡ length (inserted patch)
    → how_often mark (somes (row_after patch entries row)) + how_often mark (somes (removed_by patch.ops row)) ≡ how_often mark (somes row) + how_often mark (somes entries)

-- the marks that a patch removes of a row are those of the entries that it removes
abbrev pub RemovedMarks : Type 0
RemovedMarks = (patch : Patch) (row : Row) (mark : Mark) → IsRemovedFrom patch row mark ↔ Contains (removed_by patch.ops row) (Some mark)

-- a work that is moved to another text makes the same rows and removes the same
abbrev pub MovedAlike : Type 0
MovedAlike =
    (work : Marked) (before : Name) (row : Row) → (shown_row (moved_to work before) row ≡ shown_row work row) × ((moved_to work before).marks ≡ work.marks)
    × (inserted (moved_to work before).patch ≡ inserted work.patch) × ((place : ℕ) → Removes (moved_to work before).patch place ↔ Removes work.patch place)

-- and can be applied to each text if it can be applied to the empty text
abbrev pub MovedApplies : Type 0
MovedApplies = (work : Marked) (before : Name) (text : List ℕ) → CanApply work.patch [] → CanApply (moved_to work before).patch text
