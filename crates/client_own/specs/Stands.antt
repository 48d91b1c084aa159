-- Own work stands once on the best chain.
use Rattle.std.specs.Prelude.{◌≡◌, List, [], ◌∷◌, true, false, Some}
use Rattle.pad_message.specs.declared.message.Message.{Message}
use Rattle.pad_message.specs.Kind.{is_checkpoint}
use Rattle.pad_message.specs.Message.{name_of}
use Rattle.pad_model.specs.declared.base.Base.{Base}
use Rattle.pad_model.specs.Path.{text, IsPath}
use Rattle.pad_patch.specs.Piece.{text_after}
use Rattle.pad_stroke.specs.declared.mark.Mark.{Mark}
use Rattle.pad_stroke.specs.Work.{Marked}
use Rattle.pad_row.specs.Own.{StandsOnce, IsOn, IsSent}
use Rattle.client_work.specs.Switch.{SentWorks, sent_as}
use Rattle.client_own.specs.Rows.{row_on, marks_on}

-- a message on top of a path: a checkpoint leaves the text; a patch can be applied, and if it is an own message, what was sent as it
-- is as it was when it was made
pub record IsStep (gone typed : List Mark) (base : Base) (sent : SentWorks) (message : Message) (path : List Message) : Type 0 where
  pub still : is_checkpoint message.kind ≡ true → text_after message.patch (text base path) ≡ text base path
  pub on : IsOn message.patch (text base path) (row_on base sent path)
  pub own_patch : (own : Marked) → sent_as sent (name_of message) ≡ Some own → is_checkpoint message.kind ≡ false → own.patch ≡ message.patch
  pub own_sent : (own : Marked) → sent_as sent (name_of message) ≡ Some own → is_checkpoint message.kind ≡ false → IsSent gone typed (marks_on sent path) (text base path) (row_on base sent path) own

-- each message of a path on those below it
abbrev pub AreSteps : List Mark → List Mark → Base → SentWorks → List Message → Type 0
AreSteps gone typed base sent [] = Unit {0}
AreSteps gone typed base sent (message ∷ path) = IsStep gone typed base sent message path × AreSteps gone typed base sent path

-- own work stands once on the text after a path
abbrev pub StandsOn : (gone typed : List Mark) → Base → SentWorks → List Message → Marked → Type 0
StandsOn gone typed base sent path work = StandsOnce gone typed (marks_on sent path) (text base path) (row_on base sent path) work

-- own messages are as they were made on every path of these messages
abbrev pub HoldsOnPaths : (gone typed : List Mark) → Base → SentWorks → List Message → Type 0
HoldsOnPaths gone typed base sent all = (path : List Message) → IsPath base all path → AreSteps gone typed base sent path
