-- What a work is without the units that another one inserts.
use Rattle.std.proofs.Common.{◌≡◌, ℕ, zero, suc, ◌+◌, ◌<◌, ◌≤◌, ◌⊎◌, inl, inr, Bool, true, false, cond, List, [], ◌∷◌, ◌++◌, length, take, drop, set, get_or, slice_index_or, refl, sym, ◌∙◌, ap, subst, arith, append_assoc}
use Rattle.std.specs.Prelude.{◌≢◌, ◌==◌, ◌&&◌, not, All, Some, filter, slice_get}
use Rattle.std.proofs.lemmas.Bool.{eqb-true, eqb-false}
use Rattle.std.proofs.lemmas.List.{take_more_set, drop-set-lt, drop_more, nil_from_length, length-append, length-drop}
use Rattle.std.proofs.lemmas.List.Elements.{All-nil, All-cons, All-head, All-tail}
use Rattle.std.proofs.lemmas.List.Kept.{AllPairs-filter}
use Rattle.pad_text.specs.Text.{IsText, CutsPair}
use Rattle.pad_patch.specs.declared.operation.Operation.{Operation}
use Rattle.pad_patch.specs.Piece.{end_of, inserted, insertions}
use Rattle.pad_patch.specs.Misfit.{CanApply}
use Rattle.pad_stroke.specs.declared.mark.Mark.{Mark}
use Rattle.pad_stroke.specs.Strip.{stays, staying, thinned, is_needed, stripped}
use Rattle.pad_merge.specs.Merge.{IsNormal}
use Rattle.pad_list.specs.Number.{NoRepeat}
use Rattle.pad_stroke.specs.Work.{Marked, IsWork}
use Rattle.pad_merge.proofs.CallerLemmas.{IsSpaced, spaced_normal, normal_spaced}
use Rattle.pad_stroke.proofs.Normal.{ordered_normal}
use Rattle.pad_stroke.proofs.Once.{by_places, from_places}

-- an element and those behind it
pub next_of : {X : Type 0} (xs : List X) (i : ℕ) (x : X) → i < length xs → x ≡ get_or xs i x → drop i xs ≡ x ∷ drop (i + 1) xs
next_of xs i x within is = drop_more xs i x within ∙ ap (λ y. y ∷ drop (i + 1) xs) (sym is)

-- one unit more that stays, and is moved to the front
pub staying_kept : (gone : List Mark) (units : List ℕ) (marks : List Mark) (kept index unit : ℕ) (mark : Mark)
    → index < length units → index < length marks → kept ≤ index → unit ≡ get_or units index unit → mark ≡ slice_index_or marks index mark → stays gone mark ≡ true
    → take (kept + 1) (set units kept unit) ++ staying gone (drop (index + 1) (set units kept unit)) (drop (index + 1) marks)
    ≡ take kept units ++ staying gone (drop index units) (drop index marks)
staying_kept gone units marks kept index unit mark within marked behind is_unit is_mark stay =
    let rest = staying gone (drop (index + 1) units) (drop (index + 1) marks) in
    ap (λ us. us ++ staying gone (drop (index + 1) (set units kept unit)) (drop (index + 1) marks)) (take_more_set units kept unit (omega arith))
    ∙ ap (λ us. (take kept units ++ unit ∷ []) ++ staying gone us (drop (index + 1) marks)) (drop-set-lt (index + 1) units kept unit (omega arith))
    ∙ append_assoc (take kept units) (unit ∷ []) rest
    ∙ ap (λ t. take kept units ++ cond t (unit ∷ rest) rest) (sym stay)
    ∙ ap (λ us. take kept units ++ staying gone us (mark ∷ drop (index + 1) marks)) (sym (next_of units index unit within is_unit))
    ∙ ap (λ ms. take kept units ++ staying gone (drop index units) ms) (sym (next_of marks index mark marked is_mark))

-- one unit more that does not
pub staying_gone : (gone : List Mark) (units : List ℕ) (marks : List Mark) (kept index : ℕ) (mark : Mark)
    → index < length units → index < length marks → mark ≡ slice_index_or marks index mark → stays gone mark ≡ false
    → take kept units ++ staying gone (drop (index + 1) units) (drop (index + 1) marks)
    ≡ take kept units ++ staying gone (drop index units) (drop index marks)
staying_gone gone units marks kept index mark within marked is_mark gone_too =
    let rest = staying gone (drop (index + 1) units) (drop (index + 1) marks) in
    let unit = get_or units index 0 in
    ap (λ t. take kept units ++ cond t (unit ∷ rest) rest) (sym gone_too)
    ∙ ap (λ us. take kept units ++ staying gone us (mark ∷ drop (index + 1) marks)) (sym (drop_more units index 0 within))
    ∙ ap (λ ms. take kept units ++ staying gone (drop index units) ms) (sym (next_of marks index mark marked is_mark))

-- one mark more that stays, and is moved to the front
pub filter_kept : (test : Mark → Bool) (marks : List Mark) (kept index : ℕ) (mark : Mark) → index < length marks → kept ≤ index → mark ≡ slice_index_or marks index mark → test mark ≡ true
    → take (kept + 1) (set marks kept mark) ++ filter test (drop (index + 1) (set marks kept mark)) ≡ take kept marks ++ filter test (drop index marks)
filter_kept test marks kept index mark within behind is_mark stay =
    let rest = filter test (drop (index + 1) marks) in
    ap (λ ms. ms ++ filter test (drop (index + 1) (set marks kept mark))) (take_more_set marks kept mark (omega arith))
    ∙ ap (λ ms. (take kept marks ++ mark ∷ []) ++ filter test ms) (drop-set-lt (index + 1) marks kept mark (omega arith))
    ∙ append_assoc (take kept marks) (mark ∷ []) rest
    ∙ ap (λ t. take kept marks ++ cond t (mark ∷ rest) rest) (sym stay)
    ∙ ap (λ ms. take kept marks ++ filter test ms) (sym (next_of marks index mark within is_mark))

-- one mark more that does not
pub filter_gone : (test : Mark → Bool) (marks : List Mark) (kept index : ℕ) (mark : Mark) → index < length marks → mark ≡ slice_index_or marks index mark → test mark ≡ false
    → take kept marks ++ filter test (drop (index + 1) marks) ≡ take kept marks ++ filter test (drop index marks)
filter_gone test marks kept index mark within is_mark gone_too =
    let rest = filter test (drop (index + 1) marks) in
    ap (λ t. take kept marks ++ cond t (mark ∷ rest) rest) (sym gone_too)
    ∙ ap (λ ms. take kept marks ++ filter test ms) (sym (next_of marks index mark within is_mark))

staying_none : (gone : List Mark) (marks : List Mark) → staying gone [] marks ≡ []
staying_none gone marks = refl

-- the units of two insertions that stay
staying-append : (gone : List Mark) (xs ys : List ℕ) (marks : List Mark) → length xs ≤ length marks
    → staying gone (xs ++ ys) marks ≡ staying gone xs marks ++ staying gone ys (drop (length xs) marks)
staying-append gone [] ys marks enough = refl
staying-append gone (x ∷ xs) ys [] enough = absurd (omega arith)
staying-append gone (x ∷ xs) ys (mark ∷ marks) enough =
    let rest = staying-append gone xs ys marks (omega arith) in
    by_test (staying gone (xs ++ ys) marks) (staying gone xs marks) (staying gone ys (drop (length xs) marks)) x (stays gone mark) rest
  where
    by_test : (us vs ws : List ℕ) (u : ℕ) (test : Bool) → us ≡ vs ++ ws → cond test (u ∷ us) us ≡ cond test (u ∷ vs) vs ++ ws
    by_test us vs ws u true is = ap (λ xs. u ∷ xs) is
    by_test us vs ws u false is = is

-- as many units stay as marks do
pub length-staying : (gone : List Mark) (units : List ℕ) (marks : List Mark) → length units ≡ length marks → length (staying gone units marks) ≡ length (filter (stays gone) marks)
length-staying gone [] [] same = refl
length-staying gone [] (mark ∷ marks) same = absurd (omega arith)
length-staying gone (unit ∷ units) [] same = absurd (omega arith)
length-staying gone (unit ∷ units) (mark ∷ marks) same =
    by_test (staying gone units marks) (filter (stays gone) marks) unit mark (stays gone mark) (length-staying gone units marks (omega arith))
  where
    by_test : (us : List ℕ) (ms : List Mark) (u : ℕ) (m : Mark) (test : Bool) → length us ≡ length ms → length (cond test (u ∷ us) us) ≡ length (cond test (m ∷ ms) ms)
    by_test us ms u m true is = ap suc is
    by_test us ms u m false is = is

-- what is inserted are the units that stay
pub insertions-thinned : (gone : List Mark) (operations : List Operation) (marks : List Mark) → length (insertions operations) ≤ length marks
    → insertions (thinned gone operations marks) ≡ staying gone (insertions operations) marks
insertions-thinned gone [] marks enough = refl
insertions-thinned gone (operation ∷ operations) marks enough =
    let size = length-append operation.insert (insertions operations) in
    let left = length-drop (length operation.insert) marks in
    ap (λ us. staying gone operation.insert marks ++ us) (insertions-thinned gone operations (drop (length operation.insert) marks) (omega arith))
    ∙ sym (staying-append gone operation.insert (insertions operations) marks (omega arith))

-- what a test of two tells
not_needed : (operation : Operation) (removes inserts : Bool) → (operation.remove == 0) ≡ removes → (length operation.insert == 0) ≡ inserts → not (removes && inserts) ≡ false
    → operation.insert ≡ []
not_needed operation true true is_remove is_insert nothing = nil_from_length operation.insert (eqb-true (length operation.insert) 0 is_insert)
not_needed operation true false is_remove is_insert nothing = cc
not_needed operation false inserts is_remove is_insert nothing = cc

insertions-filter_by : (operation : Operation) (operations : List Operation) (test : Bool) → is_needed operation ≡ test
    → insertions (cond test (operation ∷ operations) operations) ≡ operation.insert ++ insertions operations
insertions-filter_by operation operations true is = refl
insertions-filter_by operation operations false is =
    ap (λ us. us ++ insertions operations) (sym (not_needed operation (operation.remove == 0) (length operation.insert == 0) refl refl is))

-- operations that are left out insert nothing
pub insertions-filter : (operations : List Operation) → insertions (filter is_needed operations) ≡ insertions operations
insertions-filter [] = refl
insertions-filter (operation ∷ operations) =
    insertions-filter_by operation (filter is_needed operations) (is_needed operation) refl ∙ ap (λ us. operation.insert ++ us) (insertions-filter operations)

-- operations from a place on, of which none touches the next
abbrev AreClear : ℕ → List Operation → Type 0
AreClear low [] = Unit {0}
AreClear low (operation ∷ operations) = (low ≤ operation.offset) × AreClear (suc (end_of operation)) operations

clear_lower : (low lower : ℕ) (operations : List Operation) → lower ≤ low → AreClear low operations → AreClear lower operations
clear_lower low lower [] order clear = tt
clear_lower low lower (operation ∷ operations) order clear = let starts = clear.0 in (omega arith, clear.1)

clear-thinned : (gone : List Mark) (low : ℕ) (operations : List Operation) (marks : List Mark) → IsSpaced low operations → AreClear low (thinned gone operations marks)
clear-thinned gone low [] marks spaced = tt
clear-thinned gone low (operation ∷ operations) marks spaced =
    (spaced.0, clear-thinned gone (suc (end_of operation)) operations (drop (length operation.insert) marks) spaced.2)

needed_true : (operation : Operation) (removes inserts : Bool) → (operation.remove == 0) ≡ removes → (length operation.insert == 0) ≡ inserts → not (removes && inserts) ≡ true
    → (0 < operation.remove) ⊎ (0 < length operation.insert)
needed_true operation true true is_remove is_insert needed = cc
needed_true operation true false is_remove is_insert needed = let some : length operation.insert ≡ 0 → ⊥ = eqb-false (length operation.insert) 0 is_insert in inr (omega arith)
needed_true operation false inserts is_remove is_insert needed = let some : operation.remove ≡ 0 → ⊥ = eqb-false operation.remove 0 is_remove in inl (omega arith)

spaced-filter_by : (low : ℕ) (operation : Operation) (operations : List Operation) (test : Bool) → is_needed operation ≡ test → low ≤ operation.offset
    → IsSpaced (suc (end_of operation)) operations → IsSpaced low (cond test (operation ∷ operations) operations)
spaced-filter_by low operation operations true is starts spaced =
    (starts, needed_true operation (operation.remove == 0) (length operation.insert == 0) refl refl is, spaced)
spaced-filter_by low operation operations false is starts spaced =
    spaced_lower (suc (end_of operation)) low operations (omega arith) spaced
  where
    spaced_lower : (low lower : ℕ) (operations : List Operation) → lower ≤ low → IsSpaced low operations → IsSpaced lower operations
    spaced_lower low lower [] order spaced = tt
    spaced_lower low lower (operation ∷ operations) order spaced = let starts = spaced.0 in (omega arith, spaced.1, spaced.2)

spaced-filter : (low : ℕ) (operations : List Operation) → AreClear low operations → IsSpaced low (filter is_needed operations)
spaced-filter low [] clear = tt
spaced-filter low (operation ∷ operations) clear =
    spaced-filter_by low operation (filter is_needed operations) (is_needed operation) refl clear.0 (spaced-filter (suc (end_of operation)) operations clear.1)

-- a stripped work is in normal form
normal-stripped : (work of : Marked) → IsWork work → IsNormal (stripped work of).patch
unfolding stripped
normal-stripped work of is_work =
    let thin = thinned of.marks work.patch.ops work.marks in
    normal_spaced (stripped work of).patch (spaced-filter 0 thin (clear-thinned of.marks 0 work.patch.ops work.marks (spaced_normal work.patch is_work.normal)))

abbrev InsertsText : Operation → Type 0
InsertsText operation = IsText operation.insert

-- what holds of all operations holds of those that are left
pub all_filter : (operations : List Operation) → All InsertsText operations → All InsertsText (filter is_needed operations)
all_filter [] all = All-nil InsertsText
all_filter (operation ∷ operations) all =
    by_test (is_needed operation) (all_filter operations (All-tail InsertsText operation operations all))
  where
    by_test : (test : Bool) → All InsertsText (filter is_needed operations) → All InsertsText (cond test (operation ∷ filter is_needed operations) (filter is_needed operations))
    by_test true rest = All-cons InsertsText operation (filter is_needed operations) (All-head InsertsText operation operations all) rest
    by_test false rest = rest

-- no mark stands twice in a stripped work if none did before
pub NoRepeat-stripped : (work of : Marked) → NoRepeat work.marks → NoRepeat (stripped work of).marks
unfolding stripped
NoRepeat-stripped work of once =
    from_places (filter (stays of.marks) work.marks) (AllPairs-filter (λ earlier later. earlier ≢ later) (stays of.marks) work.marks (by_places work.marks once))

-- a stripped work is a work
pub IsWork-stripped : (work of : Marked) → IsWork work → All InsertsText (thinned of.marks work.patch.ops work.marks) → IsWork (stripped work of)
unfolding stripped
IsWork-stripped work of is_work texts =
    let gone = of.marks in
    let thin = thinned gone work.patch.ops work.marks in
    let enough : length (insertions work.patch.ops) ≤ length work.marks = let counted = is_work.counted in omega arith in
    record {
      normal = normal-stripped work of is_work;
      texts = all_filter thin texts;
      counted =
          sym (ap length (insertions-filter thin ∙ insertions-thinned gone work.patch.ops work.marks enough)
          ∙ length-staying gone (insertions work.patch.ops) work.marks (sym is_work.counted));
    }

-- it inserts the units that stay
pub inserted-stripped : (work of : Marked) → IsWork work → inserted (stripped work of).patch ≡ staying of.marks (inserted work.patch) work.marks
unfolding stripped
inserted-stripped work of is_work =
    let enough : length (insertions work.patch.ops) ≤ length work.marks = let counted = is_work.counted in omega arith in
    insertions-filter (thinned of.marks work.patch.ops work.marks) ∙ insertions-thinned of.marks work.patch.ops work.marks enough

-- the fields of a work that was stripped
pub stripped_is : (work of : Marked) (ops : List Operation) (marks : List Mark) → ops ≡ filter is_needed (thinned of.marks work.patch.ops work.marks) → marks ≡ filter (stays of.marks) work.marks
    → record { patch = record { ops = ops; before = work.patch.before }; marks = marks } ≡ stripped work of
unfolding stripped
stripped_is work of ops marks is_ops is_marks =
    let marked_of : List Operation → List Mark → Marked = λ os ms. record { patch = record { ops = os; before = work.patch.before }; marks = ms } in
    ap (λ os. marked_of os marks) is_ops ∙ ap (marked_of (filter is_needed (thinned of.marks work.patch.ops work.marks))) is_marks

-- where an operation of a stripped work comes from
pub record IsPart (operations : List Operation) (part : Operation) : Type 0 where
  pub index : ℕ
  pub whole : Operation
  pub stands : slice_get operations index ≡ Some whole
  pub starts : part.offset ≡ whole.offset
  pub removes : part.remove ≡ whole.remove

part_later : (operation part : Operation) (operations : List Operation) → IsPart operations part → IsPart (operation ∷ operations) part
part_later operation part operations found = record {
  index = suc found.index;
  whole = found.whole;
  stands = found.stands;
  starts = found.starts;
  removes = found.removes;
}

part_by : (operation thin : Operation) (operations later : List Operation) (test : Bool) → thin.offset ≡ operation.offset → thin.remove ≡ operation.remove
    → ((index : ℕ) (part : Operation) → slice_get later index ≡ Some part → IsPart operations part)
    → (index : ℕ) (part : Operation) → slice_get (cond test (thin ∷ later) later) index ≡ Some part → IsPart (operation ∷ operations) part
part_by operation thin operations later true starts removes found zero part is =
    let same : thin ≡ part = cc in
    record {
      index = 0;
      whole = operation;
      stands = refl;
      starts = ap (λ (o : Operation). o.offset) (sym same) ∙ starts;
      removes = ap (λ (o : Operation). o.remove) (sym same) ∙ removes;
    }
part_by operation thin operations later true starts removes found (suc index) part is = part_later operation part operations (found index part is)
part_by operation thin operations later false starts removes found index part is = part_later operation part operations (found index part is)

pub part_of : (gone : List Mark) (operations : List Operation) (marks : List Mark) (index : ℕ) (part : Operation)
    → slice_get (filter is_needed (thinned gone operations marks)) index ≡ Some part → IsPart operations part
part_of gone [] marks index part is = cc
part_of gone (operation ∷ operations) marks index part is =
    let thin : Operation = record operation { insert = staying gone operation.insert marks } in
    part_by operation thin operations (filter is_needed (thinned gone operations (drop (length operation.insert) marks))) (is_needed thin) refl refl
    (λ i p is_part. part_of gone operations (drop (length operation.insert) marks) i p is_part) index part is

-- a stripped work can be applied where the work can
pub CanApply-stripped : (work of : Marked) (text : List ℕ) → IsWork work → CanApply work.patch text → CanApply (stripped work of).patch text
unfolding stripped
CanApply-stripped work of text is_work can = record {
  ordered = ordered_normal (stripped work of).patch (normal-stripped work of is_work);
  inside = λ index (part, is, late).
      let found = part_of of.marks work.patch.ops work.marks index part is in
      can.inside found.index (found.whole, found.stands, omega (arith, found.starts, found.removes));
  whole = λ index (part, is, cut).
      let found = part_of of.marks work.patch.ops work.marks index part is in
      let ends : end_of part ≡ end_of found.whole = omega (arith, found.starts, found.removes) in
      elim cut [
        | inl start ↦ can.whole found.index (found.whole, found.stands, inl (subst (CutsPair text) found.starts start))
        | inr end ↦ can.whole found.index (found.whole, found.stands, inr (subst (CutsPair text) ends end))
      ];
}
