-- How a work is carried along as the best chain changes.
use Rattle.std.specs.Prelude.{ℕ, List, [], ◌∷◌, length, if◌then◌else◌, Option, Some, None}
use Rattle.std.specs.Map.{lookup}
use Rattle.std.specs.BTreeMap.{is_at}
use Rattle.pad_text.specs.declared.name.Name.{Name}
use Rattle.pad_text.specs.Hash.{document_hash}
use Rattle.pad_patch.specs.Piece.{text_after}
use Rattle.pad_message.specs.declared.message.Message.{Message}
use Rattle.pad_message.specs.Kind.{is_checkpoint}
use Rattle.pad_graph.specs.State.{name_cmp}
use Rattle.pad_model.specs.declared.base.Base.{Base}
use Rattle.pad_model.specs.Path.{text}
use Rattle.pad_stroke.specs.Work.{Marked}
use Rattle.pad_stroke.specs.InTurn.{in_turn}
use Rattle.pad_stroke.specs.Through.{carried}
use Rattle.pad_stroke.specs.Strip.{stripped}
use Rattle.pad_branch.specs.declared.moved.Move.{Move}
use Rattle.pad_chain.specs.declared.moved.Moved.{Moved}

-- the works that were sent, each with the name of the patch message as which it was sent
abbrev pub SentWorks : Type 0
SentWorks = List (Name × Marked)

-- the work that was sent as the message of this name; of several the first counts, which is the newest
abbrev pub sent_as : SentWorks → Name → Option Marked
sent_as sent name = lookup (is_at (name_cmp name)) sent

-- a text, and a work on it
pub record Draft : Type 0 where
  pub text : List ℕ
  pub work : Marked

-- the work on the text after a path
abbrev pub draft_at : Base → List Message → Marked → Draft
draft_at base path work = record { text = text base path; work = work }

-- A message was taken back, which leaves this text. An own message's work is merged back: first that work, then the present
-- one. Over another's inverse the work is carried.
abbrev pub taken_back : Option Marked → Move → List ℕ → Marked → Marked
taken_back (Some own) move text work = in_turn own work (length text)
taken_back None move text work = carried work move.patch (document_hash text)

-- the work without the units that an own message inserts
abbrev pub without_own : Option Marked → Marked → Marked
without_own (Some own) work = stripped work own
without_own None work = work

-- a message leaves the best chain: a checkpoint changes nothing
abbrev pub reverted : SentWorks → Move → Draft → Draft
reverted sent move draft = record {
  text = text_after move.patch draft.text;
  work = if is_checkpoint move.kind then draft.work else taken_back (sent_as sent move.name) move (text_after move.patch draft.text) draft.work;
}

-- A message comes onto it: a checkpoint changes nothing. The units that an own message inserts are taken out of the work, and
-- then the work is carried over the message's patch.
abbrev pub applied : SentWorks → Move → Draft → Draft
applied sent move draft = record {
  text = text_after move.patch draft.text;
  work =
      if is_checkpoint move.kind then draft.work
      else carried (without_own (sent_as sent move.name) draft.work) move.patch (document_hash (text_after move.patch draft.text));
}

-- one move after another
abbrev pub in_order : (Move → Draft → Draft) → List Move → Draft → Draft
in_order step [] draft = draft
in_order step (move ∷ moves) draft = in_order step moves (step move draft)

-- all that moved: what leaves, the newest first; then what comes, the oldest first
abbrev pub switched : SentWorks → Moved → Draft → Draft
switched sent moved draft = in_order (applied sent) moved.applied (in_order (reverted sent) moved.reverted draft)
