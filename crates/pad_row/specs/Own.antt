-- Own work stands once: what is true of a work on a text, and the steps that keep it so.
use Rattle.std.specs.Prelude.{◌≡◌, ◌≢◌, ℕ, ◌≤◌, ◌⊎◌, List, [], ◌++◌, All, length, Some, slice_get, Contains}
use Rattle.pad_text.specs.Text.{IsText}
use Rattle.pad_text.specs.declared.name.Name.{Name}
use Rattle.pad_patch.specs.declared.operation.Operation.{Operation}
use Rattle.pad_patch.specs.declared.patch.Patch.{Patch}
use Rattle.pad_patch.specs.Piece.{inserted, text_after}
use Rattle.pad_patch.specs.Inverse.{inverse}
use Rattle.pad_patch.specs.Misfit.{CanApply}
use Rattle.pad_stroke.specs.declared.mark.Mark.{Mark}
use Rattle.pad_stroke.specs.Work.{Marked, moved_to}
use Rattle.pad_stroke.specs.Row.{Row, no_marks, row_after, shown_row, IsRemovedFrom}
use Rattle.pad_stroke.specs.InTurn.{in_turn}
use Rattle.pad_stroke.specs.Through.{carried}
use Rattle.pad_stroke.specs.Strip.{stripped}
use Rattle.pad_row.specs.Laws.{IsCounted, InTurnOn, how_often}

-- own work stands once on a text with this row: `typed` are the marks that were typed, `gone` those that an edit removed
-- from the shown text, and `sent` those of one's own messages below the text
pub record StandsOnce (gone typed sent : List Mark) (text : List ℕ) (row : Row) (work : Marked) : Type 0 where
  pub applies : CanApply work.patch text
  pub counted : IsCounted work
  pub single : (mark : Mark) → Contains typed mark → how_often mark work.marks ≤ 1
  pub single_sent : (mark : Mark) → Contains typed mark → how_often mark sent ≤ 1
  pub apart : (mark : Mark) → Contains typed mark → Contains work.marks mark → ¬ (Contains sent mark)
  pub there : (mark : Mark) → Contains typed mark → Contains work.marks mark ⊎ Contains sent mark ⊎ Contains gone mark
  pub removed : (mark : Mark) → Contains typed mark → IsRemovedFrom work.patch row mark → Contains gone mark

-- a patch of a message on a text: it inserts texts and can be applied
pub record IsOn (patch : Patch) (text : List ℕ) (row : Row) : Type 0 where
  pub is_text : IsText text
  pub is_text_after : IsText (text_after patch text)
  pub texts : All (λ (operation : Operation). IsText operation.insert) patch.ops
  pub applies : CanApply patch text
  pub long : length row ≡ length text

-- a work that was sent as a message of one's own on a text with this row, above messages with the marks `sent`
pub record IsSent (gone typed sent : List Mark) (text : List ℕ) (row : Row) (own : Marked) : Type 0 where
  pub on : IsOn own.patch text row
  pub counted : IsCounted own
  -- what it removes was removed by edits
  pub removed : (mark : Mark) → Contains typed mark → IsRemovedFrom own.patch row mark → Contains gone mark
  -- each of its marks stands in it once, and in no message below it
  pub single : (mark : Mark) → Contains typed mark → how_often mark own.marks ≤ 1
  pub once : (mark : Mark) → Contains typed mark → Contains own.marks mark → ¬ (Contains sent mark)

-- a message of one's own is reverted: its work is merged back in front of the present work
abbrev pub OwnReverted : Type 0
OwnReverted =
    (gone typed sent : List Mark) (text : List ℕ) (row : Row) (own work : Marked) → IsSent gone typed sent text row own
    → StandsOnce gone typed (own.marks ++ sent) (text_after own.patch text) (shown_row own row) work
    → StandsOnce gone typed sent text row (in_turn own work (length text))

-- a message of one's own is applied: its units are taken out of the work, which is then carried over its patch
abbrev pub OwnApplied : Type 0
OwnApplied =
    (gone typed sent : List Mark) (text : List ℕ) (row : Row) (own work : Marked) (after : Name) → IsSent gone typed sent text row own
    → StandsOnce gone typed sent text row work
    → StandsOnce gone typed (own.marks ++ sent) (text_after own.patch text) (shown_row own row) (carried (stripped work own) own.patch after)

-- a message of another's is reverted: the work is carried over its inverse
abbrev pub OtherReverted : Type 0
OtherReverted =
    (gone typed sent : List Mark) (text : List ℕ) (row entries : Row) (by : Patch) (work : Marked) (after : Name) → IsOn by text row → length entries ≡ length (inserted by)
    → StandsOnce gone typed sent (text_after by text) (row_after by entries row) work
    → StandsOnce gone typed sent text row (carried work (inverse by text) after)

-- a message of another's is applied: the work is carried over its patch
abbrev pub OtherApplied : Type 0
OtherApplied =
    (gone typed sent : List Mark) (text : List ℕ) (row entries : Row) (by : Patch) (work : Marked) (after : Name) → IsOn by text row → length entries ≡ length (inserted by)
    → StandsOnce gone typed sent text row work
    → StandsOnce gone typed sent (text_after by text) (row_after by entries row) (carried work by after)

-- an edit, as a work on the shown text: its marks are new, and what it removes is gone from then on
pub record IsTyped (gone typed new_gone new_typed sent : List Mark) (text : List ℕ) (row : Row) (work edit : Marked) : Type 0 where
  pub in_turn_on : InTurnOn work edit text row
  pub grows : (mark : Mark) → Contains gone mark → Contains new_gone mark
  pub lost : (mark : Mark) → IsRemovedFrom edit.patch (shown_row work row) mark → Contains new_gone mark
  pub old_or_new : (mark : Mark) → Contains new_typed mark → Contains typed mark ⊎ Contains edit.marks mark
  pub once : (mark : Mark) → how_often mark edit.marks ≤ 1
  pub not_in_work : (mark : Mark) → Contains edit.marks mark → ¬ (Contains work.marks mark)
  pub not_sent : (mark : Mark) → Contains edit.marks mark → ¬ (Contains sent mark)
  pub not_in_row : (mark : Mark) (place : ℕ) → Contains edit.marks mark → slice_get row place ≢ Some (Some mark)

abbrev pub Edited : Type 0
Edited =
    (gone typed new_gone new_typed sent : List Mark) (text : List ℕ) (row : Row) (work edit : Marked) → IsTyped gone typed new_gone new_typed sent text row work edit
    → StandsOnce gone typed sent text row work → StandsOnce new_gone new_typed sent text row (in_turn work edit (length text))

-- a mark that was typed stands at most once in the work and the messages below together, and once if no edit removed it
abbrev pub TypedOnce : Type 0
TypedOnce =
    (gone typed sent : List Mark) (text : List ℕ) (row : Row) (work : Marked) (mark : Mark) → StandsOnce gone typed sent text row work → Contains typed mark
    → (how_often mark (work.marks ++ sent) ≤ 1) × (¬ (Contains gone mark) → how_often mark (work.marks ++ sent) ≡ 1)

-- the work is sent as it is, as a message on the text
abbrev pub MadeIsSent : Type 0
MadeIsSent =
    (gone typed sent : List Mark) (text : List ℕ) (row : Row) (work : Marked) → StandsOnce gone typed sent text row work → IsOn work.patch text row
    → IsSent gone typed sent text row work

-- a sent work stays one as an edit comes: the marks of the edit are not its own, and not in its row
abbrev pub SentStays : Type 0
SentStays =
    (gone typed new_gone new_typed new sent : List Mark) (text : List ℕ) (row : Row) (own : Marked) → IsSent gone typed sent text row own
    → ((mark : Mark) → Contains gone mark → Contains new_gone mark) → ((mark : Mark) → Contains new_typed mark → Contains typed mark ⊎ Contains new mark)
    → ((mark : Mark) → Contains new mark → ¬ (Contains own.marks mark)) → ((mark : Mark) (place : ℕ) → Contains new mark → slice_get row place ≢ Some (Some mark))
    → IsSent new_gone new_typed sent text row own

-- a work on the empty text, with no message sent yet, is moved to another text
abbrev pub Adopted : Type 0
Adopted =
    (gone typed : List Mark) (text : List ℕ) (work : Marked) (before : Name) → StandsOnce gone typed [] [] [] work
    → StandsOnce gone typed [] text (no_marks (length text)) (moved_to work before)

-- if nothing was typed yet there is nothing to show
abbrev pub NothingTyped : Type 0
NothingTyped = (gone sent : List Mark) (text : List ℕ) (row : Row) (work : Marked) → CanApply work.patch text → IsCounted work → StandsOnce gone [] sent text row work
