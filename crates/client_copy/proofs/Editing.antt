-- The work stays on its text as it is edited.
use Rattle.std.proofs.Common.{◌≡◌, ◌≢◌, ℕ, ◌+◌, inl, inr, List, length, sym, ◌∙◌, subst, arith, Option, Some, None}
use Rattle.std.specs.List.{All, Contains}
use Rattle.std.proofs.lemmas.List.Elements.{All-contains, All-contains_itself, All-weaker}
use Rattle.pad_text.specs.Text.{IsText}
use Rattle.pad_patch.specs.declared.operation.Operation.{Operation}
use Rattle.pad_patch.specs.Piece.{text_after}
use Rattle.pad_patch.specs.Misfit.{CanApply}
use Rattle.pad_merge.specs.Laws.{AppliedPatchesMerge}
use Rattle.pad_stroke.specs.declared.mark.Mark.{Mark}
use Rattle.pad_stroke.specs.Work.{Marked}
use Rattle.pad_stroke.specs.InTurn.{in_turn}
use Rattle.pad_stroke.specs.Edit.{IsAllowed, typed, edited}
use Rattle.pad_stroke.specs.Laws.{MarksComeFromEither}
use Rattle.pad_row.specs.Edits.{IsFresh, AllowedApplies, TypedWhole, MarksOfStroke, EditTyped, OthersStayTyped, with_stroke}
use Rattle.pad_row.specs.Pairs.{TurnWhole, TurnTyped}
use Rattle.client_work.specs.Switch.{SentWorks, sent_as}
use Rattle.client_work.specs.Carrying.{IsOwnWork, IsCarried}
use Rattle.client_copy.specs.Held.{IsHeldOn}
use Rattle.client_copy.proofs.Behind.{IsGiven, ground_on}

-- no mark has the next stroke
is_new : (strokes : ℕ) (mark : Mark) → IsGiven strokes mark → mark.stroke ≢ strokes + 1
is_new strokes mark given same = absurd (omega arith)

pub fresh : (strokes : ℕ) (marks : List Mark) → All (IsGiven strokes) marks → IsFresh (strokes + 1) marks
fresh strokes marks given = All-weaker (IsGiven strokes) (λ (mark : Mark). mark.stroke ≢ strokes + 1) (is_new strokes) marks given

given_still : (strokes : ℕ) (mark : Mark) → IsGiven strokes mark → IsGiven (strokes + 1) mark
given_still strokes mark given = omega arith

given_now : (strokes : ℕ) (mark : Mark) → mark.stroke ≡ strokes + 1 → IsGiven (strokes + 1) mark
given_now strokes mark is = omega arith

-- what was sent stays of the client's own edits
own_still : OthersStayTyped → (text : List ℕ) (units : Mark → ℕ) (strokes : ℕ) (insert : List ℕ) (own : Option Marked) → IsCarried (ground_on text units strokes) own
    → IsCarried (ground_on text (with_stroke units (strokes + 1) insert) (strokes + 1)) own
own_still others text units strokes insert None is = tt
own_still others text units strokes insert (Some own) is = record {
  paired = is.paired;
  typed = others units (strokes + 1) insert own (fresh strokes own.marks is.strokes) is.typed;
  strokes = All-weaker (IsGiven strokes) (IsGiven (strokes + 1)) (given_still strokes) own.marks is.strokes;
}

pub edit_held : AppliedPatchesMerge → AllowedApplies → EditTyped → OthersStayTyped → MarksOfStroke → TypedWhole → TurnWhole → TurnTyped → MarksComeFromEither
    → (text : List ℕ) (work : Marked) (sent : SentWorks) (strokes : ℕ) (operation : Operation) (new : Marked) → IsHeldOn text work sent strokes → IsText operation.insert
    → IsAllowed (text_after work.patch text) operation → new ≡ edited work operation (strokes + 1) (length text) → CanApply new.patch text → new.patch.before ≡ work.patch.before
    → IsHeldOn text new sent (strokes + 1)
edit_held merges allowed_applies edit_typed others of_stroke whole turn_whole turn_typed marks text work sent strokes operation new held is allowed new_is applies before =
    let stroke : ℕ = strokes + 1 in
    let units : Mark → ℕ = with_stroke held.typed stroke operation.insert in
    let second : Marked = typed work operation stroke in
    let own = held.work_is.own in
    let second_whole = whole work operation stroke is in
    let can = merges work.patch second.patch text held.work_is.applies (allowed_applies work operation stroke (text_after work.patch text) allowed) in
    record {
      typed = units;
      work_is = record {
        is_text = held.work_is.is_text;
        short = held.work_is.short;
        applies = applies;
        own = subst (λ (w : Marked). IsOwnWork (ground_on text units stroke) w) (sym new_is) (record {
          paired = turn_whole work second (length text) can own.paired second_whole;
          typed = turn_typed work second (length text) units own.paired.counted second_whole.counted
              (others held.typed stroke operation.insert work (fresh strokes work.marks own.strokes) own.typed) (edit_typed held.typed work operation stroke);
          strokes = All-weaker (Contains (in_turn work second (length text)).marks) (IsGiven stroke)
              (λ mark has. elim (marks work second (length text) mark own.paired.counted second_whole.counted has) [
                | inl old ↦ given_still strokes mark (All-contains (IsGiven strokes) work.marks mark own.strokes old)
                | inr late ↦ given_now strokes mark ((of_stroke stroke (length operation.insert) mark).0 late).0
              ]) (in_turn work second (length text)).marks (All-contains_itself (in_turn work second (length text)).marks);
        });
      };
      sent_are = λ name. own_still others text held.typed strokes operation.insert (sent_as sent name) (held.sent_are name);
      made = before ∙ held.made;
    }
