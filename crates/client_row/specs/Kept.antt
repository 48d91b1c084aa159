-- The row of a committed text as messages come onto the best chain and leave it.
use Rattle.std.specs.Prelude.{ℕ, ◌-◌, List, [], ◌∷◌, ◌++◌, length, map, take, drop, if◌then◌else◌, Option, Some, None}
use Rattle.pad_patch.specs.declared.patch.Patch.{Patch}
use Rattle.pad_patch.specs.Piece.{inserted}
use Rattle.pad_patch.specs.Removed.{removed_by}
use Rattle.pad_message.specs.Kind.{is_checkpoint}
use Rattle.pad_stroke.specs.Work.{Marked}
use Rattle.pad_stroke.specs.Row.{Row, no_marks, row_after}
use Rattle.pad_branch.specs.declared.moved.Move.{Move}
use Rattle.client_work.specs.Switch.{SentWorks, sent_as}

pub record Kept : Type 0 where
  -- for each unit of the committed text its mark, or nothing
  pub row : Row
  -- the entries of the units that messages on the best chain removed, those of the newest message at the end
  pub removed : Row

-- of a text of so many units, of which none has a mark
abbrev pub unmarked : ℕ → Kept
unmarked size = record { row = no_marks size; removed = [] }

-- the entries of the units that a patch inserts: the marks of the work that was sent as it, and nothing for another's
abbrev pub new_entries : Option Marked → Patch → Row
new_entries None patch = no_marks (length (inserted patch))
new_entries (Some own) patch = map Some own.marks

-- a message comes onto the best chain: a checkpoint leaves the row
abbrev pub applied : Option Marked → Move → Kept → Kept
applied own move kept =
    if is_checkpoint move.kind then kept
    else record { row = row_after move.patch (new_entries own move.patch) kept.row; removed = kept.removed ++ removed_by move.patch.ops kept.row }

-- so many entries at the end of a row; nothing stands for those that it has not
abbrev pub last_entries : ℕ → Row → Row
last_entries count row = no_marks (count - length row) ++ drop (length row - count) row

-- a message leaves it: what it had removed is there again
abbrev pub reverted : Move → Kept → Kept
reverted move kept =
    if is_checkpoint move.kind then kept
    else record {
      row = row_after move.patch (last_entries (length (inserted move.patch)) kept.removed) kept.row;
      removed = take (length kept.removed - length (inserted move.patch)) kept.removed;
    }

-- one after another
abbrev pub all_reverted : List Move → Kept → Kept
all_reverted [] kept = kept
all_reverted (move ∷ moves) kept = all_reverted moves (reverted move kept)

abbrev pub all_applied : SentWorks → List Move → Kept → Kept
all_applied sent [] kept = kept
all_applied sent (move ∷ moves) kept = all_applied sent moves (applied (sent_as sent move.name) move kept)
