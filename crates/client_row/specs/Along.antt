-- What is kept of a row along a path.
use Rattle.std.specs.Prelude.{◌≡◌, ℕ, List, [], ◌∷◌, ◌++◌, map, nat_lt, if◌then◌else◌, Option, Some, None}
use Rattle.pad_patch.specs.Removed.{removed_by}
use Rattle.pad_text.specs.declared.name.Name.{Name}
use Rattle.pad_message.specs.declared.message.Message.{Message}
use Rattle.pad_message.specs.Kind.{is_checkpoint}
use Rattle.pad_model.specs.declared.base.Base.{Base}
use Rattle.pad_stroke.specs.declared.mark.Mark.{Mark}
use Rattle.pad_stroke.specs.Work.{Marked}
use Rattle.pad_stroke.specs.Row.{Row, no_marks}
use Rattle.pad_row.specs.Laws.{IsCounted}
use Rattle.client_work.specs.Switch.{SentWorks, sent_as}
use Rattle.client_own.specs.Rows.{row_on}
use Rattle.client_row.specs.Kept.{Kept}

-- what the messages of a path removed, those of the newest at the end
abbrev pub removed_on : Base → SentWorks → List Message → Row
removed_on base sent [] = []
removed_on base sent (message ∷ path) =
    if is_checkpoint message.kind then removed_on base sent path else removed_on base sent path ++ removed_by message.patch.ops (row_on base sent path)

-- the mark of an edit after a number, or nothing
abbrev pub newer : ℕ → Option Mark → Option Mark
newer since None = None
newer since (Some mark) = if nat_lt since mark.stroke then Some mark else None

-- the marks of edits after a number
abbrev pub newer_marks : ℕ → Row → Row
newer_marks since row = map (newer since) row

-- The row is that of the text after the path, and what is kept is what its messages removed, where marks of edits up to the number `since` count for nothing. Of
-- what the oldest messages removed the first entries may be missing, if they are nothing.
pub record IsKeptOn (since : ℕ) (base : Base) (sent : SentWorks) (path : List Message) (kept : Kept) : Type 0 where
  pub row : newer_marks since kept.row ≡ newer_marks since (row_on base sent path)
  pub missing : ℕ
  pub removed : no_marks missing ++ newer_marks since kept.removed ≡ newer_marks since (removed_on base sent path)

-- each work that was sent has one mark for each unit that it inserts
abbrev pub AreCounted : SentWorks → Type 0
AreCounted sent = (name : Name) (own : Marked) → sent_as sent name ≡ Some own → IsCounted own
