-- The life of a working copy: what befalls it, one event after another, with the marks that were typed since the last repair ended.
use Rattle.pad_patch.specs.Piece.{text_after}
use Rattle.std.specs.Prelude.{◌≤◌}
use Rattle.std.specs.Prelude.{◌≢◌, ◌+◌, Bool, List, [], ◌∷◌, ◌++◌, length, All, None, Contains}
use Rattle.pad_text.specs.Text.{IsText}
use Rattle.pad_text.specs.declared.name.Name.{Name}
use Rattle.pad_patch.specs.declared.operation.Operation.{Operation}
use Rattle.pad_patch.specs.Misfit.{longest_text}
use Rattle.pad_patch.specs.Removed.{removed_by}
use Rattle.pad_message.specs.declared.message.Message.{Message}
use Rattle.pad_message.specs.Message.{name_of}
use Rattle.pad_model.specs.Path.{IsLinkedPath}
use Rattle.pad_stroke.specs.declared.mark.Mark.{Mark}
use Rattle.pad_stroke.specs.Mark.{marks_of}
use Rattle.pad_stroke.specs.Row.{shown_row}
use Rattle.pad_stroke.specs.Edit.{typed}
use Rattle.pad_stroke.specs.Laws.{somes}
use Rattle.pad_chain.specs.declared.moved.Moved.{Moved}
use Rattle.client_work.specs.Switch.{sent_as}
use Rattle.client_copy.specs.Pad.{committed}
use Rattle.client_copy.specs.State.{Copy, new_copy}
use Rattle.client_copy.specs.Calls.{Edits}
use Rattle.client_copy.specs.Receive.{Follows}
use Rattle.client_copy.specs.Make.{IsPatchOf, Makes}
use Rattle.client_copy.specs.Adopt.{Adopts, MayAdopt}
use Rattle.client_copy.specs.Repair.{noted, EndsRepair, AreAmong}
use Rattle.client_copy.specs.View.{NoClash}
use Rattle.client_own.specs.Rows.{row_on}

pub record Life : Type 0 where
  pub copy : Copy
  -- the marks that edits typed since the last repair ended
  pub marks : List Mark
  -- those that edits removed from the shown text
  pub gone : List Mark
  -- the names of the patch messages that were made
  pub made : List Name

abbrev pub new_life : Life
new_life = record { copy = new_copy; marks = []; gone = []; made = [] }

-- the marks that an edit removes from the shown text
abbrev pub removed_marks : Copy → Operation → List Mark
removed_marks copy operation =
    somes (removed_by (typed copy.work operation (copy.strokes + 1)).patch.ops (shown_row copy.work (row_on copy.pad.base copy.sent copy.pad.choice.chosen)))

-- after an edit that leaves this copy
abbrev pub edited_life : Life → Operation → Copy → Life
edited_life life operation after = record {
  copy = after;
  marks = life.marks ++ marks_of (life.copy.strokes + 1) (length operation.insert);
  gone = life.gone ++ removed_marks life.copy operation;
  made = life.made;
}

-- All messages that a working copy ever receives or makes: no names clash, and each inserts texts.
pub record AreAll (all : List Message) : Type 0 where
  pub names : NoClash all
  pub texts : (message : Message) → Contains all message → All (λ (operation : Operation). IsText operation.insert) message.patch.ops

-- no message of the path has the name
abbrev pub IsNoneNamed : Name → List Message → Type 0
IsNoneNamed name [] = Unit {0}
IsNoneNamed name (message ∷ path) = (name_of message ≢ name) × IsNoneNamed name path

-- no message of one's own that was made before the last repair ended hangs on the message of this name
abbrev pub HangsNothingOlder : List Message → Life → Name → Type 0
HangsNothingOlder all life name =
    (own : Message) (path : List Message) → IsLinkedPath life.copy.pad.base all (own ∷ path) → sent_as life.copy.sent (name_of own) ≢ None → ¬ (Contains life.made (name_of own)) → IsNoneNamed name path

-- what befell a working copy, of whose life these are all messages
pub data Lives (all : List Message) : Life → Type 0 where
  begins : Lives all new_life
  edits : (before : Life) (operation : Operation) (after : Copy) → Lives all before → Edits (committed before.copy.pad) before.copy operation after → Lives all (edited_life before operation after)
  hears : (before : Life) (message : Message) (moved : Moved) (after : Copy) → Lives all before → Contains all message → Follows before.copy message moved after → Lives all (record before { copy = after })
  -- a patch message is made of the work, where the shown text is not too long
  makes : (before : Life) (message : Message) (moved : Moved) (after : Copy) → Lives all before → Contains all message → IsPatchOf before.copy message → length (text_after before.copy.work.patch (committed before.copy.pad)) ≤ longest_text
      → HangsNothingOlder all before (name_of message) → Makes before.copy message moved after → Lives all (record before { copy = after; made = name_of message ∷ before.made })
  adopts : (before : Life) (message : Message) (after : Copy) → Lives all before → Contains all message → MayAdopt before.copy.pad → Adopts before.copy message after → Lives all (record before { copy = after })
  -- a repair heard a message; and it ended, from which on all begins anew
  notes : (before : Life) (message : Message) → Lives all before → Lives all (record before { copy = noted message before.copy })
  repairs : (before : Life) (received : List Message) (found : Bool) (after : Copy) → Lives all before → AreAmong received all → EndsRepair before.copy received found after
      → Lives all (record { copy = after; marks = []; gone = []; made = [] })
