-- An edit: an operation on the shown text, which is the text with the work applied.
use Rattle.std.specs.Prelude.{ℕ, ◌<◌, ◌⊎◌, List, [], ◌∷◌, length}
use Rattle.pad_text.specs.Text.{CutsPair}
use Rattle.pad_patch.specs.declared.operation.Operation.{Operation}
use Rattle.pad_patch.specs.Piece.{end_of}
use Rattle.pad_patch.specs.Misfit.{longest_text}
use Rattle.pad_patch.specs.UnitStore.{replaced}
use Rattle.pad_stroke.specs.declared.edit_refused.EditRefused.{EditRefused}
use Rattle.pad_stroke.specs.declared.edit_refused.EditRefused.TheVariants.{Range, Pair, TooLong, NoMemory}
use Rattle.pad_stroke.specs.Mark.{marks_of}
use Rattle.pad_stroke.specs.Work.{Marked}
use Rattle.pad_stroke.specs.InTurn.{in_turn}

-- the new shown text
abbrev pub shown_after : Operation → List ℕ → List ℕ
shown_after operation shown = replaced operation.offset (end_of operation) operation.insert shown

-- the operation ends after the shown text
abbrev pub EndsBehind : List ℕ → Operation → Type 0
EndsBehind shown operation = length shown < end_of operation

-- the start or the end of the operation cuts a pair of the shown text
abbrev pub CutsShown : List ℕ → Operation → Type 0
CutsShown shown operation = CutsPair shown operation.offset ⊎ CutsPair shown (end_of operation)

-- the new shown text is longer than the longest text, and longer than the shown text
abbrev pub GrowsTooLong : List ℕ → Operation → Type 0
GrowsTooLong shown operation =
    (longest_text < length (shown_after operation shown)) × (length shown < length (shown_after operation shown))

-- the operation is allowed
pub record IsAllowed (shown : List ℕ) (operation : Operation) : Type 0 where
  pub inside : ¬ (EndsBehind shown operation)
  pub whole : ¬ (CutsShown shown operation)
  pub short : ¬ (GrowsTooLong shown operation)

-- why an edit is refused; the first of the causes is told
abbrev pub IsCause : List ℕ → Operation → EditRefused → Type 0
IsCause shown operation Range = EndsBehind shown operation
IsCause shown operation Pair = ¬ (EndsBehind shown operation) × CutsShown shown operation
IsCause shown operation TooLong = ¬ (EndsBehind shown operation) × ¬ (CutsShown shown operation) × GrowsTooLong shown operation
IsCause shown operation (NoMemory error) = Unit {0}

-- what the edit does, as marked operations behind a work. A merge looks at no hash but the first patch's
abbrev pub typed : Marked → Operation → ℕ → Marked
typed work operation stroke = record {
  patch = record { ops = operation ∷ []; before = work.patch.before };
  marks = marks_of stroke (length operation.insert);
}

-- the work after an edit, on a text of `size` units
abbrev pub edited : Marked → Operation → ℕ → ℕ → Marked
edited work operation stroke size = in_turn work (typed work operation stroke) size
