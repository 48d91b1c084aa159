-- What is kept follows the best chain.
use Rattle.std.specs.Prelude.{◌≡◌, ◌≤◌, ℕ, List, [], length, All, Some}
use Rattle.pad_text.specs.declared.name.Name.{Name}
use Rattle.pad_message.specs.declared.message.Message.{Message}
use Rattle.pad_model.specs.declared.base.Base.{Base}
use Rattle.pad_model.specs.Path.{NamesDiffer, IsPath, text}
use Rattle.pad_stroke.specs.declared.mark.Mark.{Mark}
use Rattle.pad_stroke.specs.Work.{Marked}
use Rattle.pad_stroke.specs.Row.{shown_row}
use Rattle.pad_chain.specs.declared.moved.Moved.{Moved}
use Rattle.pad_chain.specs.Moved.{IsMoved}
use Rattle.client_work.specs.Switch.{SentWorks, sent_as}
use Rattle.client_copy.specs.View.{AreSentAs}
use Rattle.client_own.specs.Rows.{row_on}
use Rattle.client_row.specs.Kept.{Kept, unmarked, all_reverted, all_applied}
use Rattle.client_row.specs.Along.{IsKeptOn, AreCounted, newer_marks}

-- at a base it is that of the text alone
abbrev pub BeginsAtBase : Type 0
BeginsAtBase = (since : ℕ) (base : Base) (sent : SentWorks) → IsKeptOn since base sent [] (unmarked (length base.text))

-- as the path changes
abbrev pub FollowsMoves : Type 0
FollowsMoves =
    (since : ℕ) (all : List Message) (base : Base) (sent : SentWorks) (old new : List Message) (moved : Moved) (kept : Kept) → NamesDiffer all → AreSentAs all sent → AreCounted sent
    → IsPath base all old → IsPath base all new → IsMoved base old new moved → IsKeptOn since base sent old kept
    → IsKeptOn since base sent new (all_applied sent moved.applied (all_reverted moved.reverted kept))

-- no work that was sent is newer than the number
abbrev pub AreOlder : ℕ → SentWorks → Type 0
AreOlder since sent = (name : Name) (own : Marked) → sent_as sent name ≡ Some own → All (λ (mark : Mark). mark.stroke ≤ since) own.marks

-- where all works that were sent are older than the number, a row without marks serves on any path
abbrev pub BeginsAnywhere : Type 0
BeginsAnywhere =
    (since : ℕ) (all : List Message) (base : Base) (sent : SentWorks) (path : List Message) → NamesDiffer all → AreSentAs all sent → AreCounted sent → AreOlder since sent → IsPath base all path
    → IsKeptOn since base sent path (unmarked (length (text base path)))

-- the row of the shown text has the same newer marks
abbrev pub ShownAlike : Type 0
ShownAlike =
    (since : ℕ) (base : Base) (sent : SentWorks) (path : List Message) (kept : Kept) (work : Marked) → IsKeptOn since base sent path kept
    → newer_marks since (shown_row work kept.row) ≡ newer_marks since (shown_row work (row_on base sent path))
