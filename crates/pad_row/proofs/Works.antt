-- Works over rows.
use Rattle.std.proofs.Common.{◌≡◌, ℕ, ◌+◌, ◌<◌, ◌≤◌, ◌⊎◌, inl, inr, Bool, true, false, cond, ◌&&◌, ◌==◌, List, [], ◌∷◌, ◌++◌, length, map, drop, replicate, refl, sym, ◌∙◌, ap, subst, arith}
use Rattle.std.specs.Prelude.{Option, Some, None, ◌↔◌, not, All, Contains, slice_get, filter}
use Rattle.std.proofs.lemmas.Bool.{eqb-true}
use Rattle.std.proofs.lemmas.List.{length-map, length-replicate}
use Rattle.pad_text.specs.Text.{IsText}
use Rattle.pad_patch.specs.declared.operation.Operation.{Operation}
use Rattle.pad_patch.specs.declared.patch.Patch.{Patch}
use Rattle.pad_patch.specs.Piece.{end_of, inserted, text_after, patched, length_after}
use Rattle.pad_patch.specs.Inverse.{inverse}
use Rattle.pad_patch.specs.Misfit.{EndsAfter, CanApply}
use Rattle.pad_patch.specs.Removed.{Removes, IsKeptFrom}
use Rattle.pad_patch.proofs.CallerLemmas.{IsLaid, laid, somes_of, same_length, length-text_after, element_kept, kept_element, kept_or_new, kept_by_inverse, contains_has, has_contains, has_at, at_has, RemovedIn, removes_of, of_removes, removed_at_places}
use Rattle.pad_merge.specs.Merge.{merged, CanMerge}
use Rattle.pad_merge.proofs.CallerLemmas.{CanMerge-CanApply, CanApply-merged}
use Rattle.pad_stroke.specs.declared.mark.Mark.{Mark}
use Rattle.pad_stroke.specs.Work.{Marked}
use Rattle.pad_stroke.specs.Row.{Row, row_after, shown_row, no_marks, IsRemovedFrom}
use Rattle.pad_stroke.specs.InTurn.{in_turn}
use Rattle.pad_stroke.specs.Through.{carried}
use Rattle.pad_stroke.specs.Strip.{stays, staying, thinned, is_needed, stripped}
use Rattle.pad_stroke.proofs.CallerLemmas.{in_turn_patch, in_turn_counted, in_turn_row, in_turn_first, in_turn_removes, in_turn_removes_just, carried_removes, carried_inserted, carried_marks, stripped_removes, stripped_is_filter, marks_are_shown}
use Rattle.pad_row.specs.Laws.{IsCounted, InTurnOn, how_often, TurnRow, FirstMarksStay, TurnRemoves, TurnRemovesJust, TurnApplies, TurnCounted, TurnCounts, CarriedRemoves, CarriedBackRemoves, CarriedRemovesKept, CarriedCounted, StrippedRemoves, StrippedCounts, RowIsAsLong, RowMarks, RemovedMarks, MovedAlike}
use Rattle.pad_row.proofs.Counts.{in_row, in_row-some, in_row-none, row_often, how_often-filter}

-- both works can be merged on a text of the row's length
can_merge : (first second : Marked) (text : List ℕ) (row : Row) → InTurnOn first second text row → CanMerge first.patch second.patch (length row)
can_merge first second text row on =
    subst (CanMerge first.patch second.patch) (sym on.long) (CanMerge-CanApply first.patch second.patch text on.first_applies on.second_applies)

pub turn_row : TurnRow
turn_row first second text row on =
    subst (λ n. shown_row (in_turn first second n) row ≡ shown_row second (shown_row first row)) on.long
    (in_turn_row first second row (can_merge first second text row on) on.first_counted on.second_counted)

pub first_marks_stay : FirstMarksStay
first_marks_stay first second text row mark on contains =
    subst (λ n. Contains (in_turn first second n).marks mark ⊎ IsRemovedFrom second.patch (shown_row first row) mark) on.long
    (in_turn_first first second row mark (can_merge first second text row on) on.first_counted contains)

pub turn_removes : TurnRemoves
turn_removes first second text row mark on removed =
    in_turn_removes first second row mark (can_merge first second text row on) on.first_counted
    (subst (λ n. IsRemovedFrom (in_turn first second n).patch row mark) (sym on.long) removed)

pub turn_removes_just : TurnRemovesJust
turn_removes_just first second text row mark on =
    subst (λ n. IsRemovedFrom (in_turn first second n).patch row mark
    ↔ (IsRemovedFrom first.patch row mark ⊎ IsRemovedFrom second.patch (row_after first.patch (no_marks (length (inserted first.patch))) row) mark)) on.long
    (in_turn_removes_just first second row mark (can_merge first second text row on))

pub turn_applies : TurnApplies
turn_applies first second text row on =
    subst (λ p. CanApply p text) (sym (in_turn_patch first second (length text))) (CanApply-merged first.patch second.patch text on.first_applies on.second_applies)

pub turn_counted : TurnCounted
turn_counted first second size = in_turn_counted first second size

-- the row of the text after a patch is as long as that text
pub row_is_as_long : RowIsAsLong
unfolding text_after
row_is_as_long patch text row entries long counted = same_length patch entries row (inserted patch) text counted long

pub turn_counts : TurnCounts
turn_counts first second text row mark on =
    let nothing = no_marks (length text) in
    let long : length nothing ≡ length text = length-replicate (length text) None in
    let on_nothing : InTurnOn first second text nothing = record { long = long; first_applies = on.first_applies; second_applies = on.second_applies; first_counted = on.first_counted; second_counted = on.second_counted } in
    let both = in_turn first second (length text) in
    let firsts = shown_row first nothing in
    let seconds = shown_row second firsts in
    let same = turn_row first second text nothing on_nothing in
    let shown : in_row mark (shown_row both nothing) ≡ how_often mark both.marks = ap (how_often mark) (marks_are_shown both (length text) (in_turn_counted first second (length text))) in
    let size_first : length firsts ≡ length (text_after first.patch text) = row_is_as_long first.patch text nothing (map Some first.marks) long (length-map first.marks Some ∙ on.first_counted) in
    let laid_second = laid second.patch (length firsts) on.second_applies.ordered
    (subst (λ n. (index : ℕ) → ¬ (EndsAfter second.patch n index)) (sym size_first) on.second_applies.inside) in
    let laid_first = laid first.patch (length nothing) on.first_applies.ordered
    (subst (λ n. (index : ℕ) → ¬ (EndsAfter first.patch n index)) (sym long) on.first_applies.inside) in
    omega (
      arith,
      shown,
      ap (in_row mark) same,
      row_often mark firsts (map Some second.marks) (length firsts) second.patch.ops laid_second,
      row_often mark nothing (map Some first.marks) (length nothing) first.patch.ops laid_first,
      in_row-some mark first.marks,
      in_row-some mark second.marks,
      in_row-none mark (length text),
    )

pub carried_removes_row : CarriedRemoves
carried_removes_row work by after text row entries mark long counted both (place, removes, is) =
    let kept = carried_removes work by after text both place removes in
    (kept.0, kept.2, element_kept by entries row kept.0 place (Some mark) counted (subst (λ n. IsKeptFrom by n kept.0 place) (sym long) kept.1) is)

pub carried_back_removes : CarriedBackRemoves
carried_back_removes work by after text row entries mark long counted can both (place, removes, is) =
    let kept = carried_removes work (inverse by text) after (text_after by text) both place removes in
    let turned = kept_by_inverse by text place kept.0 can.ordered can.inside kept.1 in
    (kept.0, kept.2, kept_element by entries row place kept.0 (Some mark) counted (subst (λ n. IsKeptFrom by n place kept.0) (sym long) turned) is)

pub carried_counted : CarriedCounted
carried_counted work by after counted = ap length (carried_marks work by after) ∙ counted ∙ ap length (sym (carried_inserted work by after))

pub carried_removes_kept : CarriedRemovesKept
carried_removes_kept work by after text both = carried_removes work by after text both

-- an operation that removes something is needed
needed_by : (remove : ℕ) (rest : Bool) → 0 < remove → not ((remove == 0) && rest) ≡ true
needed_by remove rest some = by_zero (remove == 0) refl
  where
    by_zero : (test : Bool) → (remove == 0) ≡ test → not (test && rest) ≡ true
    by_zero false is = refl
    by_zero true is = let none : remove ≡ 0 = eqb-true remove 0 is in absurd (omega (arith, none, some))

removed_thin : (gone : List Mark) (operations : List Operation) (marks : List Mark) (place : ℕ) → RemovedIn operations place → RemovedIn (filter is_needed (thinned gone operations marks)) place
removed_thin gone [] marks place removed = removed
removed_thin gone (operation ∷ operations) marks place removed =
    by_test (filter is_needed (thinned gone operations (drop (length operation.insert) marks))) (is_needed thin) refl removed (removed_thin gone operations (drop (length operation.insert) marks) place)
  where
    thin : Operation
    thin = record operation { insert = staying gone operation.insert marks }

    by_test : (later : List Operation) (test : Bool) → is_needed thin ≡ test → ((operation.offset ≤ place) × (place < end_of operation)) ⊎ RemovedIn operations place → (RemovedIn operations place → RemovedIn later place)
        → RemovedIn (cond test (thin ∷ later) later) place
    by_test later true is (inl here) rest = inl here
    by_test later true is (inr behind) rest = inr (rest behind)
    by_test later false is (inr behind) rest = rest behind
    by_test later false is (inl here) rest =
        let needed : is_needed thin ≡ true = needed_by operation.remove (length (staying gone operation.insert marks) == 0) (omega (arith, here.0, here.1)) in
        cc

pub stripped_removes_all : StrippedRemoves
unfolding stripped
stripped_removes_all work of place = (
  stripped_removes work of place,
  λ (index, operation, is, from, below).
      removes_of (filter is_needed (thinned of.marks work.patch.ops work.marks)) place
      (removed_thin of.marks work.patch.ops work.marks place (of_removes work.patch.ops place index operation is from below)),
)

pub stripped_removes_row : (work of : Marked) (row : Row) (mark : Mark) → IsRemovedFrom (stripped work of).patch row mark → IsRemovedFrom work.patch row mark
stripped_removes_row work of row mark (place, removes, is) = (place, stripped_removes work of place removes, is)

pub row_marks : RowMarks
row_marks patch entries row mark counted contains =
    let after = row_after patch entries row in
    let at = has_at (Some mark) after (contains_has (Some mark) after contains) in
    elim (kept_or_new patch entries row at.0 (Some mark) counted at.1) [
      | inl kept ↦ inr (has_contains (Some mark) row (at_has (Some mark) row kept.0 kept.2))
      | inr new ↦ inl (has_contains (Some mark) entries (at_has (Some mark) entries new.0 new.1))
    ]

pub removed_marks : RemovedMarks
removed_marks patch row mark = let places = removed_at_places patch row (Some mark) in (places.1, places.0)

pub moved_alike : MovedAlike
moved_alike work before row = (refl, refl, refl, λ place. (λ removes. removes, λ removes. removes))

pub stripped_counts : StrippedCounts
stripped_counts work of mark =
    subst (λ marks. how_often mark marks ≤ how_often mark work.marks) (sym (stripped_is_filter work of)) (how_often-filter mark (stays of.marks) work.marks)
