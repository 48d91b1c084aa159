-- What takes an edit of the shown text back.
use Rattle.std.specs.Prelude.{◌≡◌, ℕ, ◌≤◌, ◌⊎◌, List, length}
use Rattle.pad_text.specs.Text.{IsText}
use Rattle.pad_patch.specs.declared.operation.Operation.{Operation}
use Rattle.pad_patch.specs.Piece.{end_of}
use Rattle.pad_patch.specs.Misfit.{longest_text}
use Rattle.pad_patch.specs.UnitStore.{between}
use Rattle.pad_stroke.specs.Edit.{IsAllowed}
use Rattle.pad_strokes.specs.declared.stroke.Stroke.{Stroke}

-- the operation that takes an edit of the shown text back, on the text after it: it removes what the edit inserted, and inserts what it removed
abbrev pub taking_back : Operation → List ℕ → Operation
taking_back operation shown = record {
  offset = operation.offset;
  remove = length operation.insert;
  insert = between operation.offset (end_of operation) shown;
}

-- so many inserted units are no more than a text may have, or no more than are removed for them
abbrev pub IsShort : ℕ → ℕ → Type 0
IsShort inserted removed = (inserted ≤ longest_text) ⊎ (inserted ≤ removed)

-- the operation is an allowed edit of the shown text
pub record IsEdit (shown : List ℕ) (operation : Operation) : Type 0 where
  pub text : IsText operation.insert
  pub allowed : IsAllowed shown operation

-- the stroke is that edit, and takes it back
pub record IsStroke (shown : List ℕ) (operation : Operation) (stroke : Stroke) : Type 0 where
  pub edit : IsEdit shown operation
  pub back : stroke.back ≡ taking_back operation shown
