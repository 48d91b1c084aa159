-- What an edit is, as a work on the shown text.
use Rattle.std.specs.Prelude.{◌≡◌, ◌≢◌, ℕ, ◌<◌, ◌≤◌, ◌==◌, ◌⊎◌, ◌↔◌, if◌then◌else◌, List, ◌++◌, map, take, drop, length, Some, All, Contains, slice_get, slice_index}
use Rattle.pad_text.specs.Text.{IsText}
use Rattle.pad_patch.specs.declared.operation.Operation.{Operation}
use Rattle.pad_patch.specs.Piece.{end_of, text_after}
use Rattle.pad_patch.specs.Removed.{removed_by}
use Rattle.pad_patch.specs.Misfit.{CanApply}
use Rattle.pad_stroke.specs.declared.mark.Mark.{Mark}
use Rattle.pad_stroke.specs.Mark.{marks_of}
use Rattle.pad_stroke.specs.Work.{Marked}
use Rattle.pad_stroke.specs.Row.{Row, shown_row}
use Rattle.pad_stroke.specs.Edit.{IsAllowed, typed, edited}
use Rattle.pad_stroke.specs.Laws.{somes}
use Rattle.pad_row.specs.Laws.{IsCounted, InTurnOn, how_often}
use Rattle.pad_row.specs.Own.{IsTyped}
use Rattle.pad_row.specs.Pairs.{IsPairedWork, AreTyped}

-- no mark of the list has this stroke
abbrev pub IsFresh : ℕ → List Mark → Type 0
IsFresh stroke marks = All (λ (mark : Mark). mark.stroke ≢ stroke) marks

-- what an allowed edit types can be applied to the shown text
abbrev pub AllowedApplies : Type 0
AllowedApplies = (work : Marked) (operation : Operation) (stroke : ℕ) (shown : List ℕ) → IsAllowed shown operation → CanApply (typed work operation stroke).patch shown

-- what an edit of a text types is whole
abbrev pub TypedWhole : Type 0
TypedWhole = (work : Marked) (operation : Operation) (stroke : ℕ) → IsText operation.insert → IsPairedWork (typed work operation stroke)

-- the marks that one edit types are those of its stroke with the indexes below the count
abbrev pub MarksOfStroke : Type 0
MarksOfStroke = (stroke count : ℕ) (mark : Mark) → Contains (marks_of stroke count) mark ↔ ((mark.stroke ≡ stroke) × (mark.index < count))

-- and each stands once
abbrev pub MarksOfOnce : Type 0
MarksOfOnce = (stroke count : ℕ) (mark : Mark) → how_often mark (marks_of stroke count) ≤ 1

-- an edit puts its marks into the row of the shown text, in place of what it removes
abbrev pub EditRow : Type 0
EditRow =
    (work : Marked) (operation : Operation) (stroke : ℕ) (text : List ℕ) (row : Row) → InTurnOn work (typed work operation stroke) text row
    → shown_row (edited work operation stroke (length text)) row
    ≡ take operation.offset (shown_row work row) ++ (map Some (marks_of stroke (length operation.insert)) ++ drop (end_of operation) (shown_row work row))

-- which unit was typed under a mark, where an edit with this stroke has typed these units
abbrev pub with_stroke : (Mark → ℕ) → ℕ → List ℕ → Mark → ℕ
with_stroke units stroke insert mark = if mark.stroke == stroke then slice_index insert mark.index else units mark

-- the units of an edit with a new stroke are typed under its marks, and those of other works stay so
abbrev pub EditTyped : Type 0
EditTyped = (units : Mark → ℕ) (work : Marked) (operation : Operation) (stroke : ℕ) → AreTyped (with_stroke units stroke operation.insert) (typed work operation stroke)

abbrev pub OthersStayTyped : Type 0
OthersStayTyped = (units : Mark → ℕ) (stroke : ℕ) (insert : List ℕ) (work : Marked) → IsFresh stroke work.marks → AreTyped units work → AreTyped (with_stroke units stroke insert) work

-- an allowed edit with a new stroke is an edit as `IsTyped` asks: it removes what it takes out of the row of the shown text,
-- and types its marks
abbrev pub EditIsTyped : Type 0
EditIsTyped =
    (gone old sent : List Mark) (text : List ℕ) (row : Row) (work : Marked) (operation : Operation) (stroke : ℕ) → length row ≡ length text → CanApply work.patch text → IsCounted work
    → IsAllowed (text_after work.patch text) operation → IsFresh stroke work.marks → IsFresh stroke sent → IsFresh stroke (somes row)
    → IsTyped gone old (gone ++ somes (removed_by (typed work operation stroke).patch.ops (shown_row work row))) (old ++ marks_of stroke (length operation.insert)) sent text row work (typed work operation stroke)
