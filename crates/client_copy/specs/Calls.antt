-- An edit, which leaves the pad.
use Rattle.std.specs.Prelude.{◌≡◌, ℕ, ◌+◌, List, length}
use Rattle.pad_patch.specs.declared.operation.Operation.{Operation}
use Rattle.pad_patch.specs.Piece.{text_after}
use Rattle.pad_stroke.specs.Edit.{IsAllowed, edited}
use Rattle.client_copy.specs.State.{State}

-- an edit, with the next stroke number, of the shown text, which is the committed text `text` with the work applied
pub record Edits {P W : Type 0} (text : List ℕ) (before : State P W) (operation : Operation) (after : State P W) : Type 0 where
  pub allowed : IsAllowed (text_after before.work.patch text) operation
  pub state : after ≡ record before { work = edited before.work operation (before.strokes + 1) (length text); strokes = before.strokes + 1 }
