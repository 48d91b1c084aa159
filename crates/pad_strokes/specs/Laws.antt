-- What holds of strokes and the texts between them.
use Rattle.std.specs.Prelude.{◌≡◌, ℕ, List}
use Rattle.pad_text.specs.Text.{IsText}
use Rattle.pad_patch.specs.declared.operation.Operation.{Operation}
use Rattle.pad_stroke.specs.Edit.{EndsBehind, CutsShown, shown_after}
use Rattle.pad_strokes.specs.declared.stroke.Stroke.{Stroke}
use Rattle.pad_strokes.specs.Stroke.{taking_back, IsEdit}
use Rattle.pad_strokes.specs.Strokes.{Strokes, after_change, after_edit, Undoes, Redoes, StandOn}

-- what takes an edit back on the text after the edit: of the causes of a refusal only a text that becomes too long can hold; it gives the text before; and what
-- takes it back again is the edit
pub record GivesBack (before : List ℕ) (operation : Operation) (after : List ℕ) (back : Operation) : Type 0 where
  pub text : IsText back.insert
  pub inside : ¬ (EndsBehind after back)
  pub whole : ¬ (CutsShown after back)
  pub before_again : shown_after back after ≡ before
  pub again : taking_back back after ≡ operation

abbrev pub BackGivesBack : Type 0
BackGivesBack =
    (shown : List ℕ) (operation : Operation) → IsText shown → IsEdit shown operation
    → IsText (shown_after operation shown) × GivesBack shown operation (shown_after operation shown) (taking_back operation shown)

-- strokes stand on the shown text after an edit
abbrev pub EditStands : Type 0
EditStands =
    (strokes : Strokes) (since shown : List ℕ) (number : ℕ) (operation : Operation) → StandOn strokes since shown → IsEdit shown operation
    → StandOn (after_edit number operation shown strokes) since (shown_after operation shown)

-- and after an exact undo. The text is then one from which the stroke leads to the shown one: it was typed as this operation, and a redo shows the same text again
pub record IsUndone (strokes : Strokes) (since shown : List ℕ) (stroke : Stroke) (after : Strokes) : Type 0 where
  pub operation : Operation
  pub edit : IsEdit (shown_after stroke.back shown) operation
  pub shown_again : shown ≡ shown_after operation (shown_after stroke.back shown)
  pub gives_back : GivesBack (shown_after stroke.back shown) operation shown stroke.back
  pub stands : StandOn after since (shown_after stroke.back shown)

abbrev pub UndoStands : Type 0
UndoStands =
    (before : Strokes) (since shown : List ℕ) (stroke : Stroke) (after : Strokes) → StandOn before since shown → Undoes before shown stroke after
    → IsUndone before since shown stroke after

-- and after a redo, which is allowed
abbrev pub RedoStands : Type 0
RedoStands =
    (before : Strokes) (since shown : List ℕ) (number : ℕ) (operation : Operation) (after : Strokes) → StandOn before since shown → Redoes before shown number operation after
    → IsEdit shown operation × StandOn after since (shown_after operation shown)

-- and after another change, whatever text is shown then
abbrev pub ChangeStands : Type 0
ChangeStands = (strokes : Strokes) (shown : List ℕ) → IsText shown → StandOn (after_change strokes) shown shown
