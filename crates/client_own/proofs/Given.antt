-- Marks of a work and of those that were sent are of strokes that were given out, and each work has one mark for each unit.
use Rattle.std.proofs.Common.{◌≡◌, ◌≢◌, ◌≤◌, ◌+◌, inl, inr, ℕ, Bool, true, false, cond, List, [], ◌∷◌, length, refl, subst, Option, Some, None, Contains, arith}
use Rattle.std.proofs.lemmas.List.Elements.{All-weaker, All-contains_itself}
use Rattle.pad_text.specs.declared.name.Name.{Name}
use Rattle.pad_text.specs.Hash.{document_hash}
use Rattle.pad_patch.specs.declared.patch.Patch.{Patch}
use Rattle.pad_patch.specs.Piece.{text_after}
use Rattle.pad_message.specs.Kind.{is_checkpoint}
use Rattle.pad_stroke.specs.declared.mark.Mark.{Mark}
use Rattle.pad_stroke.specs.Work.{Marked}
use Rattle.pad_stroke.specs.InTurn.{in_turn}
use Rattle.pad_stroke.specs.Through.{carried}
use Rattle.pad_stroke.specs.Strip.{stripped}
use Rattle.pad_stroke.specs.Laws.{MarksComeFromEither, StrippedMarks}
use Rattle.pad_row.specs.Laws.{IsCounted, TurnCounted, CarriedCounted, CarriedMarks, StrippedCounted}
use Rattle.pad_row.specs.Edits.{IsFresh, MarksOfStroke}
use Rattle.pad_branch.specs.declared.moved.Move.{Move}
use Rattle.pad_chain.specs.declared.moved.Moved.{Moved}
use Rattle.client_work.specs.Switch.{SentWorks, sent_as, Draft, taken_back, without_own, reverted, applied, in_order, switched}

pub record MarkLaws : Type 0 where
  pub come_from : MarksComeFromEither
  pub strip : StrippedMarks
  pub turn_counted : TurnCounted
  pub carried_counted : CarriedCounted
  pub carried_marks : CarriedMarks
  pub stripped_counted : StrippedCounted
  pub of_stroke : MarksOfStroke

abbrev pub AreGiven : ℕ → List Mark → Type 0
AreGiven strokes marks = (mark : Mark) → Contains marks mark → mark.stroke ≤ strokes

pub record IsGiven (strokes : ℕ) (work : Marked) : Type 0 where
  pub counted : IsCounted work
  pub marks : AreGiven strokes work.marks

abbrev pub AreSentGiven : ℕ → SentWorks → Type 0
AreSentGiven strokes sent = (name : Name) (own : Marked) → sent_as sent name ≡ Some own → IsGiven strokes own

-- ---- more strokes

pub given_more : (strokes more : ℕ) → strokes ≤ more → (work : Marked) → IsGiven strokes work → IsGiven more work
given_more strokes more less work is = record { counted = is.counted; marks = λ mark has. let one = is.marks mark has in omega (arith, less, one) }

-- the next stroke is fresh
pub fresh : (strokes : ℕ) (marks : List Mark) → AreGiven strokes marks → IsFresh (strokes + 1) marks
fresh strokes marks given = All-weaker (Contains marks) (λ (mark : Mark). mark.stroke ≢ strokes + 1) (λ mark has is. let one = given mark has in omega (arith, one, is)) marks (All-contains_itself marks)

-- ---- one move

pub turned : MarkLaws → (strokes : ℕ) (first second : Marked) (size : ℕ) → IsGiven strokes first → IsGiven strokes second → IsGiven strokes (in_turn first second size)
turned laws strokes first second size one other = record {
  counted = laws.turn_counted first second size;
  marks = λ mark has. elim (laws.come_from first second size mark one.counted other.counted has) [
    | inl of_first ↦ one.marks mark of_first
    | inr of_second ↦ other.marks mark of_second
  ];
}

carried_given : MarkLaws → (strokes : ℕ) (work : Marked) (by : Patch) (after : Name) → IsGiven strokes work → IsGiven strokes (carried work by after)
carried_given laws strokes work by after is = record {
  counted = laws.carried_counted work by after is.counted;
  marks = λ mark has. is.marks mark (subst (λ marks. Contains marks mark) (laws.carried_marks work by after).0 has);
}

stripped_given : MarkLaws → (strokes : ℕ) (work own : Marked) → IsGiven strokes work → IsGiven strokes (stripped work own)
stripped_given laws strokes work own is = record {
  counted = laws.stripped_counted work own is.counted;
  marks = λ mark has. is.marks mark ((laws.strip work own mark).0 has).0;
}

back_given : MarkLaws → (strokes : ℕ) (sent : SentWorks) → AreSentGiven strokes sent → (move : Move) (text : List ℕ) (work : Marked) → IsGiven strokes work → (o : Option Marked) → sent_as sent move.name ≡ o
    → IsGiven strokes (taken_back o move text work)
back_given laws strokes sent sent_are move text work is None at = carried_given laws strokes work move.patch (document_hash text) is
back_given laws strokes sent sent_are move text work is (Some own) at = turned laws strokes own work (length text) (sent_are move.name own at) is

without_given : MarkLaws → (strokes : ℕ) (work : Marked) → IsGiven strokes work → (o : Option Marked) → IsGiven strokes (without_own o work)
without_given laws strokes work is None = is
without_given laws strokes work is (Some own) = stripped_given laws strokes work own is

reverted_by : MarkLaws → (strokes : ℕ) (sent : SentWorks) → AreSentGiven strokes sent → (move : Move) (text : List ℕ) (work : Marked) → IsGiven strokes work → (b : Bool)
    → IsGiven strokes (cond b work (taken_back (sent_as sent move.name) move text work))
reverted_by laws strokes sent sent_are move text work is true = is
reverted_by laws strokes sent sent_are move text work is false = back_given laws strokes sent sent_are move text work is (sent_as sent move.name) refl

applied_by : MarkLaws → (strokes : ℕ) (sent : SentWorks) (move : Move) (after : Name) (work : Marked) → IsGiven strokes work → (b : Bool)
    → IsGiven strokes (cond b work (carried (without_own (sent_as sent move.name) work) move.patch after))
applied_by laws strokes sent move after work is true = is
applied_by laws strokes sent move after work is false = carried_given laws strokes (without_own (sent_as sent move.name) work) move.patch after (without_given laws strokes work is (sent_as sent move.name))

-- ---- all that moved

all_by : (strokes : ℕ) (step : Move → Draft → Draft) → ((move : Move) (draft : Draft) → IsGiven strokes draft.work → IsGiven strokes (step move draft).work)
    → (moves : List Move) (draft : Draft) → IsGiven strokes draft.work → IsGiven strokes (in_order step moves draft).work
all_by strokes step one [] draft is = is
all_by strokes step one (move ∷ moves) draft is = all_by strokes step one moves (step move draft) (one move draft is)

pub switched_given : MarkLaws → (strokes : ℕ) (sent : SentWorks) → AreSentGiven strokes sent → (moved : Moved) (draft : Draft) → IsGiven strokes draft.work → IsGiven strokes (switched sent moved draft).work
switched_given laws strokes sent sent_are moved draft is =
    all_by strokes (applied sent)
    (λ move draft is. applied_by laws strokes sent move (document_hash (text_after move.patch draft.text)) draft.work is (is_checkpoint move.kind)) moved.applied (in_order (reverted sent) moved.reverted draft)
    (all_by strokes (reverted sent) (λ move draft is. reverted_by laws strokes sent sent_are move (text_after move.patch draft.text) draft.work is (is_checkpoint move.kind)) moved.reverted draft is)
