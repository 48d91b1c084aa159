-- An edit as a work on the shown text.
use Rattle.std.proofs.Common.{◌≡◌, ℕ, zero, suc, ◌+◌, ◌-◌, ◌<◌, ◌≤◌, ◌⊎◌, inl, inr, Bool, true, false, cond, ◌==◌, List, [], ◌∷◌, ◌++◌, length, map, take, drop, slice_index_or, refl, sym, ◌∙◌, ap, subst, arith}
use Rattle.std.specs.Prelude.{◌≢◌, Option, Some, None, ◌↔◌, All, Contains, slice_get, slice_index}
use Rattle.std.specs.List.{range_with_len}
use Rattle.std.specs.Option.{option_map}
use Rattle.std.proofs.lemmas.Bool.{eqb-true, eq-eqb}
use Rattle.std.proofs.lemmas.List.{append-nil, length-map}
use Rattle.std.proofs.lemmas.List.Elements.{All-nil, All-cons, All-head, All-tail, Contains-append_left, Contains-append_right, Contains-append_cases}
use Rattle.std.proofs.lemmas.Option.{get_or_from_slice_get}
use Rattle.pad_text.specs.Text.{IsText}
use Rattle.pad_patch.specs.declared.operation.Operation.{Operation}
use Rattle.pad_patch.specs.Piece.{end_of, text_after}
use Rattle.pad_patch.specs.Removed.{removed_by}
use Rattle.pad_patch.specs.Misfit.{CanApply}
use Rattle.pad_patch.proofs.CallerLemmas.{at_has, has_at, contains_has, has_contains, has_somes, get-map, get-range, range_get, map-map, read_all, removed_at_places}
use Rattle.pad_stroke.specs.declared.mark.Mark.{Mark}
use Rattle.pad_stroke.specs.Mark.{marks_of}
use Rattle.pad_stroke.specs.Work.{Marked}
use Rattle.pad_stroke.specs.Row.{Row, shown_row, IsRemovedFrom}
use Rattle.pad_stroke.specs.Edit.{IsAllowed, typed}
use Rattle.pad_stroke.specs.Laws.{somes}
use Rattle.pad_stroke.proofs.CallerLemmas.{CanApply-typed, length-typed, length-marks_of, NoRepeat-marks_of, marks_stand_once, patched-one}
use Rattle.pad_row.specs.Laws.{IsCounted, InTurnOn, how_often}
use Rattle.pad_row.specs.Own.{IsTyped}
use Rattle.pad_row.specs.Pairs.{IsPaired, IsPairedWork, AreTyped}
use Rattle.pad_row.specs.Edits.{IsFresh, AllowedApplies, TypedWhole, MarksOfStroke, MarksOfOnce, EditRow, with_stroke, EditTyped, OthersStayTyped, EditIsTyped}
use Rattle.pad_row.proofs.Works.{turn_row}
use Rattle.pad_row.proofs.PairWorks.{typed_paired}

pub allowed_applies : AllowedApplies
allowed_applies work operation stroke shown allowed = CanApply-typed work operation stroke shown allowed

abbrev InsertsText : Operation → Type 0
InsertsText operation = IsText operation.insert

pub typed_whole : TypedWhole
typed_whole work operation stroke text = record {
  texts = All-cons InsertsText operation [] text (All-nil InsertsText);
  counted = length-typed work operation stroke;
  paired = subst (λ us. IsPaired us (marks_of stroke (length operation.insert))) (sym (append-nil operation.insert)) (typed_paired stroke operation.insert);
}

mark_there : (stroke count place : ℕ) → place < count → slice_get (marks_of stroke count) place ≡ Some (record { stroke = stroke; index = place })
mark_there stroke count place below =
    let of_stroke : ℕ → Mark = λ index. record { stroke = stroke; index = index } in
    get-map of_stroke (range_with_len 0 count) place ∙ ap (option_map of_stroke) (get-range 0 count place below) ∙ ap (λ n. Some (of_stroke n)) (omega arith)

abbrev mark_of : ℕ → ℕ → Mark
mark_of stroke index = record { stroke = stroke; index = index }

there_mark : (stroke count place : ℕ) (mark : Mark) → slice_get (marks_of stroke count) place ≡ Some mark → (mark.stroke ≡ stroke) × (mark.index < count)
there_mark stroke count place mark is =
    by_range (slice_get (range_with_len 0 count) place) refl (sym (get-map (mark_of stroke) (range_with_len 0 count) place) ∙ is)
  where
    by_range : (o : Option ℕ) → slice_get (range_with_len 0 count) place ≡ o → option_map (mark_of stroke) o ≡ Some mark → (mark.stroke ≡ stroke) × (mark.index < count)
    by_range None at same = cc
    by_range (Some n) at same =
        let here : Some (mark_of stroke n) ≡ Some mark = same in
        let equal : mark_of stroke n ≡ mark = cc in
        let found = range_get 0 count place n at in
        let index : n ≡ mark.index = ap (λ (m : Mark). m.index) equal in
        (sym (ap (λ (m : Mark). m.stroke) equal), omega (arith, found.0, found.1, index))

pub marks_of_stroke : MarksOfStroke
marks_of_stroke stroke count mark = (
  λ contains.
      let at = has_at mark (marks_of stroke count) (contains_has mark (marks_of stroke count) contains) in
      there_mark stroke count at.0 mark at.1,
  λ (same, below).
      let is = mark_there stroke count mark.index below in
      let own : record { stroke = stroke; index = mark.index } ≡ mark = ap (λ n. record { stroke = n; index = mark.index }) (sym same) in
      has_contains mark (marks_of stroke count) (at_has mark (marks_of stroke count) mark.index (is ∙ ap Some own)),
)

pub marks_of_once : MarksOfOnce
marks_of_once stroke count mark = elim (marks_stand_once (marks_of stroke count) mark (NoRepeat-marks_of stroke count)) [
  | inl there ↦ omega (arith, there.1)
  | inr none ↦ omega (arith, none.1)
]

pub edit_row : EditRow
edit_row work operation stroke text row on =
    let marks = marks_of stroke (length operation.insert) in
    turn_row work (typed work operation stroke) text row on
    ∙ patched-one operation work.patch.before (map Some marks) (shown_row work row) (length-map marks Some ∙ length-marks_of stroke (length operation.insert))

-- the units that an edit types, read off its marks
own_unit : (units : Mark → ℕ) (stroke : ℕ) (insert : List ℕ) (index : ℕ) → with_stroke units stroke insert (record { stroke = stroke; index = index }) ≡ slice_index insert index
own_unit units stroke insert index = ap (λ t. cond t (slice_index insert index) (units (record { stroke = stroke; index = index }))) (eq-eqb stroke stroke refl)

other_by : (units : Mark → ℕ) (stroke : ℕ) (insert : List ℕ) (mark : Mark) (test : Bool) → (mark.stroke == stroke) ≡ test → mark.stroke ≢ stroke → cond test (slice_index insert mark.index) (units mark) ≡ units mark
other_by units stroke insert mark true is differs = absurd (differs (eqb-true mark.stroke stroke is))
other_by units stroke insert mark false is differs = refl

pub others_stay_typed : OthersStayTyped
others_stay_typed units stroke insert work fresh are = same_all work.marks fresh ∙ are
  where
    same_all : (marks : List Mark) → IsFresh stroke marks → map (with_stroke units stroke insert) marks ≡ map units marks
    same_all [] new = refl
    same_all (mark ∷ marks) new =
        ap (λ u. u ∷ map (with_stroke units stroke insert) marks) (other_by units stroke insert mark (mark.stroke == stroke) refl (All-head (λ (m : Mark). m.stroke ≢ stroke) mark marks new))
        ∙ ap (λ us. units mark ∷ us) (same_all marks (All-tail (λ (m : Mark). m.stroke ≢ stroke) mark marks new))

pub edit_typed : EditTyped
edit_typed units work operation stroke =
    let insert = operation.insert in
    let of_stroke : ℕ → Mark = λ index. record { stroke = stroke; index = index } in
    map-map (with_stroke units stroke insert) of_stroke (range_with_len 0 (length insert))
    ∙ map_same (λ index. with_stroke units stroke insert (of_stroke index)) (slice_index insert) (range_with_len 0 (length insert)) (λ index. own_unit units stroke insert index)
    ∙ read_all 0 insert
    ∙ sym (append-nil insert)
  where
    map_same : (f g : ℕ → ℕ) (xs : List ℕ) → ((x : ℕ) → f x ≡ g x) → map f xs ≡ map g xs
    map_same f g [] same = refl
    map_same f g (x ∷ xs) same = ap (λ y. y ∷ map f xs) (same x) ∙ ap (λ ys. g x ∷ ys) (map_same f g xs same)

not_fresh : (stroke : ℕ) (marks : List Mark) (mark : Mark) → IsFresh stroke marks → Contains marks mark → mark.stroke ≢ stroke
not_fresh stroke marks mark fresh (k, below, is) same = fresh k mark below (ap (λ (m : Mark). m.stroke) is ∙ same)

pub edit_is_typed : EditIsTyped
edit_is_typed gone old sent text row work operation stroke long applies counted allowed fresh fresh_sent fresh_row =
    let edit = typed work operation stroke in
    let count = length operation.insert in
    let out = somes (removed_by edit.patch.ops (shown_row work row)) in
    let of_stroke : (mark : Mark) → Contains edit.marks mark → mark.stroke ≡ stroke = λ mark contains. ((marks_of_stroke stroke count mark).0 contains).0 in
    record {
      in_turn_on = record {
        long = long;
        first_applies = applies;
        second_applies = CanApply-typed work operation stroke (text_after work.patch text) allowed;
        first_counted = counted;
        second_counted = length-typed work operation stroke;
      };
      grows = λ mark contains. Contains-append_left gone out mark contains;
      lost = λ mark removed.
          let all = removed_by edit.patch.ops (shown_row work row) in
          let there = (removed_at_places edit.patch (shown_row work row) (Some mark)).1 removed in
          Contains-append_right gone out mark (has_contains mark out (has_somes mark all (contains_has (Some mark) all there)));
      old_or_new = λ mark contains. Contains-append_cases old edit.marks mark contains;
      once = marks_of_once stroke count;
      not_in_work = λ mark contains of_work. not_fresh stroke work.marks mark fresh of_work (of_stroke mark contains);
      not_sent = λ mark contains of_sent. not_fresh stroke sent mark fresh_sent of_sent (of_stroke mark contains);
      not_in_row = λ mark place contains is.
          not_fresh stroke (somes row) mark fresh_row (has_contains mark (somes row) (has_somes mark row (at_has (Some mark) row place is))) (of_stroke mark contains);
    }
