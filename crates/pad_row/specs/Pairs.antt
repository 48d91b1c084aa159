-- The marks of the two units of a surrogate pair.
use Rattle.std.specs.Prelude.{◌≡◌, ℕ, suc, ◌+◌, Bool, true, List, [], ◌∷◌, ◌++◌, map, filter, take, drop, replicate, length, Option, Some, None, All, IsTrue, slice_get}
use Rattle.std.specs.Char.Utf16.{is_high_surrogate, is_low_surrogate}
use Rattle.pad_text.specs.Text.{IsText}
use Rattle.pad_text.specs.declared.name.Name.{Name}
use Rattle.pad_patch.specs.declared.operation.Operation.{Operation}
use Rattle.pad_patch.specs.declared.patch.Patch.{Patch}
use Rattle.pad_patch.specs.Piece.{end_of, inserted, patched}
use Rattle.pad_merge.specs.Merge.{CanMerge}
use Rattle.pad_stroke.specs.declared.mark.Mark.{Mark}
use Rattle.pad_stroke.specs.Mark.{marks_of}
use Rattle.pad_stroke.specs.Work.{Marked, moved_to}
use Rattle.pad_stroke.specs.InTurn.{in_turn}
use Rattle.pad_stroke.specs.Edit.{typed, edited}
use Rattle.pad_stroke.specs.Laws.{somes}
use Rattle.pad_stroke.specs.Through.{carried}
use Rattle.pad_stroke.specs.Strip.{KeepsPairs, stays, stripped}
use Rattle.pad_row.specs.Laws.{IsCounted}

-- the second mark is the next one of the same edit
abbrev pub IsNextMark : Mark → Mark → Type 0
IsNextMark first second = (second.stroke ≡ first.stroke) × (second.index ≡ first.index + 1)

-- a high surrogate that a low one follows, and their marks: they are of one edit and have successive indexes. Each unit
-- has its mark
abbrev pub IsPaired : List ℕ → List Mark → Type 0
IsPaired units marks =
    (place high low : ℕ) (first second : Mark) → slice_get units place ≡ Some high → slice_get units (suc place) ≡ Some low → IsTrue (is_high_surrogate high) → IsTrue (is_low_surrogate low)
    → slice_get marks place ≡ Some first → slice_get marks (suc place) ≡ Some second → IsNextMark first second

-- the work inserts texts, has one mark for each unit that it inserts, and the two units of each pair have successive marks
pub record IsPairedWork (work : Marked) : Type 0 where
  pub texts : All (λ (operation : Operation). IsText operation.insert) work.patch.ops
  pub counted : IsCounted work
  pub paired : IsPaired (inserted work.patch) work.marks

-- each unit that the work inserts is the one that was typed under its mark
abbrev pub AreTyped : (Mark → ℕ) → Marked → Type 0
AreTyped typed work = map typed work.marks ≡ inserted work.patch

-- what one edit types is paired
abbrev pub TypedPaired : Type 0
TypedPaired = (stroke : ℕ) (units : List ℕ) → IsPaired units (marks_of stroke (length units))

-- works in turn stay paired
abbrev pub TurnWhole : Type 0
TurnWhole = (first second : Marked) (size : ℕ) → CanMerge first.patch second.patch size → IsPairedWork first → IsPairedWork second → IsPairedWork (in_turn first second size)

-- and so does a carried work
abbrev pub CarriedWhole : Type 0
CarriedWhole = (work : Marked) (by : Patch) (after : Name) → IsPairedWork work → IsPairedWork (carried work by after)

-- and a stripped one, of whose pairs both units stay or neither
abbrev pub StrippedWhole : Type 0
StrippedWhole = (work of : Marked) → IsPairedWork work → KeepsPairs of.marks (inserted work.patch) work.marks → IsPairedWork (stripped work of)

-- of two works whose units were typed under their marks the one can be stripped of the other: of each pair both units
-- stay or neither
abbrev pub StripsWhole : Type 0
StripsWhole = (work of : Marked) (typed : Mark → ℕ) → IsPairedWork work → IsPairedWork of → AreTyped typed work → AreTyped typed of → KeepsPairs of.marks (inserted work.patch) work.marks

-- a mark stays with its unit: each unit of works in turn is the one that was typed under its mark, if it was so in each
abbrev pub TurnTyped : Type 0
TurnTyped =
    (first second : Marked) (size : ℕ) (typed : Mark → ℕ) → IsCounted first → IsCounted second → AreTyped typed first → AreTyped typed second
    → AreTyped typed (in_turn first second size)

abbrev pub CarriedTyped : Type 0
CarriedTyped = (work : Marked) (by : Patch) (after : Name) (typed : Mark → ℕ) → AreTyped typed work → AreTyped typed (carried work by after)

abbrev pub StrippedTyped : Type 0
StrippedTyped = (work of : Marked) (typed : Mark → ℕ) → IsCounted work → AreTyped typed work → AreTyped typed (stripped work of)

-- a moved work has the same units with the same marks
abbrev pub MovedWhole : Type 0
MovedWhole = (work : Marked) (before : Name) → IsPairedWork work → IsPairedWork (moved_to work before)

abbrev pub MovedTyped : Type 0
MovedTyped = (work : Marked) (before : Name) (typed : Mark → ℕ) → AreTyped typed work → AreTyped typed (moved_to work before)

-- for each unit of a text the unit with its mark, or nothing
abbrev pub UnitRow : Type 0
UnitRow = List (Option (ℕ × Mark))

-- units with their marks
abbrev pub with_marks : List ℕ → List Mark → UnitRow
with_marks [] marks = []
with_marks (unit ∷ units) [] = []
with_marks (unit ∷ units) (mark ∷ marks) = Some (unit, mark) ∷ with_marks units marks

-- the units that a work inserts, with their marks
abbrev pub marked_units : Marked → UnitRow
marked_units work = with_marks (inserted work.patch) work.marks

-- the row of units after a work
abbrev pub units_after : Marked → UnitRow → UnitRow
units_after work row = patched work.patch (marked_units work) row

-- the units with their marks after two works in turn are those after the first one and then the second one
abbrev pub TurnUnits : Type 0
TurnUnits =
    (first second : Marked) (row : UnitRow) → CanMerge first.patch second.patch (length row) → IsCounted first → IsCounted second
    → units_after (in_turn first second (length row)) row ≡ units_after second (units_after first row)

-- an edit puts its units with their marks in place of what it removes of the shown units
abbrev pub EditUnits : Type 0
EditUnits =
    (work : Marked) (operation : Operation) (stroke : ℕ) (row : UnitRow) → CanMerge work.patch (typed work operation stroke).patch (length row) → IsCounted work
    → units_after (edited work operation stroke (length row)) row
    ≡ take operation.offset (units_after work row) ++ (with_marks operation.insert (marks_of stroke (length operation.insert)) ++ drop (end_of operation) (units_after work row))

-- after a work on a text of which no unit is marked, those that are there are those that the work inserts
abbrev pub UnitsAreShown : Type 0
UnitsAreShown = (work : Marked) (size : ℕ) → IsCounted work → map Some (somes (units_after work (replicate size None))) ≡ marked_units work

-- those of a carried work are those of the work
abbrev pub CarriedUnits : Type 0
CarriedUnits = (work : Marked) (by : Patch) (after : Name) → marked_units (carried work by after) ≡ marked_units work

-- the mark of the unit is none of these
abbrev pub stays_with : List Mark → Option (ℕ × Mark) → Bool
stays_with gone None = true
stays_with gone (Some (unit, mark)) = stays gone mark

-- those of a stripped work are those whose marks the other work has not
abbrev pub StrippedUnits : Type 0
StrippedUnits = (work of : Marked) → IsCounted work → marked_units (stripped work of) ≡ filter (stays_with of.marks) (marked_units work)
