-- What holds of all works.
use Rattle.std.specs.Prelude.{◌≡◌, ℕ, ◌+◌, ◌<◌, ◌^◌, ◌⊎◌, ◌↔◌, List, [], ◌++◌, length, map, take, drop, Option, Some, None, replicate, count_by, Contains, All}
use Rattle.std.specs.List.{filter_map}
use Rattle.pad_list.specs.Number.{NoRepeat}
use Rattle.pad_text.specs.Text.{IsText}
use Rattle.pad_patch.specs.declared.operation.Operation.{Operation}
use Rattle.pad_patch.specs.declared.patch.Patch.{Patch}
use Rattle.pad_patch.specs.Piece.{end_of, text_after, inserted}
use Rattle.pad_transform.specs.Table.{transformed_all}
use Rattle.pad_transform.specs.Carried.{BothApply}
use Rattle.pad_stroke.specs.declared.mark.Mark.{Mark}
use Rattle.pad_stroke.specs.Mark.{marks_of}
use Rattle.pad_stroke.specs.Work.{Marked}
use Rattle.pad_stroke.specs.Row.{Row, no_marks, shown_row}
use Rattle.pad_stroke.specs.InTurn.{in_turn}
use Rattle.pad_stroke.specs.Edit.{edited}
use Rattle.pad_stroke.specs.Through.{joined}
use Rattle.pad_stroke.specs.Strip.{same_mark, KeepsPairs, thinned, stripped}

-- a mark stands once where it stands at all
abbrev pub MarksStandOnce : Type 0
MarksStandOnce =
    (marks : List Mark) (mark : Mark) → NoRepeat marks
    → (Contains marks mark × (count_by (λ other. same_mark other mark) marks ≡ 1))
    ⊎ (¬ (Contains marks mark) × (count_by (λ other. same_mark other mark) marks ≡ 0))

-- each mark of two works in turn is a mark of one of them
abbrev pub MarksComeFromEither : Type 0
MarksComeFromEither =
    (first second : Marked) (size : ℕ) (mark : Mark) → length first.marks ≡ length (inserted first.patch) → length second.marks ≡ length (inserted second.patch)
    → Contains (in_turn first second size).marks mark → Contains first.marks mark ⊎ Contains second.marks mark

-- each mark of the second one stays
abbrev pub SecondMarksStay : Type 0
SecondMarksStay =
    (first second : Marked) (size : ℕ) (mark : Mark) → length second.marks ≡ length (inserted second.patch)
    → Contains second.marks mark → Contains (in_turn first second size).marks mark

-- a stripped work has the marks that the other work has not
abbrev pub StrippedMarks : Type 0
StrippedMarks = (work of : Marked) (mark : Mark) → Contains (stripped work of).marks mark ↔ (Contains work.marks mark × ¬ (Contains of.marks mark))

-- what stays of each insertion of a work is a text, where each insertion is one and each pair stays or goes as a whole
abbrev pub PairsStayWhole : Type 0
PairsStayWhole =
    (work of : Marked) → length work.marks ≡ length (inserted work.patch) → All (λ (operation : Operation). IsText operation.insert) work.patch.ops
    → KeepsPairs of.marks (inserted work.patch) work.marks → All (λ (operation : Operation). IsText operation.insert) (thinned of.marks work.patch.ops work.marks)

-- the marks that are there
abbrev pub somes : {A : Type 0} → List (Option A) → List A
somes items = filter_map (λ item. item) items

-- the marks of the units of the shown text, from left to right, where the text before the work has `size` units:
-- none if a unit is one of that text
abbrev pub shown_marks : Marked → ℕ → Row
shown_marks work size = shown_row work (no_marks size)

-- each mark of a work is shown, in order
abbrev pub MarksAreShown : Type 0
MarksAreShown = (work : Marked) (size : ℕ) → length work.marks ≡ length (inserted work.patch) → somes (shown_marks work size) ≡ work.marks

-- an edit puts its marks in place of those of the shown units that it removes
abbrev pub EditMarks : Type 0
EditMarks =
    (work : Marked) (operation : Operation) (stroke size : ℕ) → length work.marks ≡ length (inserted work.patch)
    → (edited work operation stroke size).marks
    ≡ somes (take operation.offset (shown_marks work size) ++ (map Some (marks_of stroke (length operation.insert)) ++ drop (end_of operation) (shown_marks work size)))

-- joining operations that touch changes nothing of the text after them
abbrev pub JoiningChangesNothing : Type 0
JoiningChangesNothing = (patch : Patch) (text : List ℕ) → text_after (record patch { ops = joined patch.ops }) text ≡ text_after patch text

-- the removals of the transformed operations, joined, fit 32 bits where the text after the other patch is that short
abbrev pub JointsFitWithin : Type 0
JointsFitWithin =
    (patch by : Patch) (text : List ℕ) → BothApply patch by text → All (λ (operation : Operation). IsText operation.insert) by.ops → length (text_after by text) < 2 ^ 32
    → All (λ operation. operation.remove < 2 ^ 32) (joined (transformed_all patch by))

-- or where there is room behind each operation's end for all that the other patch inserts
abbrev pub JointsFitWithRoom : Type 0
JointsFitWithRoom =
    (patch by : Patch) → All (λ (operation : Operation). end_of operation + length (inserted by) < 2 ^ 32) patch.ops
    → All (λ operation. operation.remove < 2 ^ 32) (joined (transformed_all patch by))
