-- What the runs of a row take out.
use Rattle.std.proofs.Common.{◌≡◌, ℕ, zero, suc, ◌+◌, ◌-◌, ◌<◌, ◌≤◌, inl, inr, Bool, true, false, cond, List, [], ◌∷◌, ◌++◌, length, take, drop, refl, sym, ◌∙◌, ap, subst, arith, append_assoc}
use Rattle.std.specs.Prelude.{Option, None, All, sum_by}
use Rattle.std.proofs.Math.Seq.{get_or-append_seam}
use Rattle.std.proofs.lemmas.Bool.{cases_lt}
use Rattle.std.proofs.lemmas.List.{drop_at, take_all, take-append-le, length-append, get_or_append_left}
use Rattle.std.proofs.lemmas.List.Elements.{All-nil, All-cons, All-append}
use Rattle.std.proofs.lemmas.List.Sums.{sum_by-append, sum_by-cons}
use Rattle.pad_patch.specs.declared.operation.Operation.{Operation}
use Rattle.pad_stroke.specs.declared.mark.Mark.{Mark}
use Rattle.pad_stroke.specs.Row.{Row}
use Rattle.pad_strokes.specs.Row.{is_of, is_unit_of, units_of, without}
use Rattle.pad_strokes.specs.Runs.{removal, closed, runs_from, runs}
use Rattle.pad_strokes.specs.Removal.{removed_from, taken_out, IsPlain, RemovesOwn, IsRemovalOf}
use Rattle.pad_strokes.specs.TakingOut.{TakesOut}

-- ---- lists

pub taken_out-append : {A : Type 0} (first second : List Operation) (items : List A) → taken_out (first ++ second) items ≡ taken_out first (taken_out second items)
taken_out-append [] second items = refl
taken_out-append (operation ∷ first) second items = ap (removed_from operation) (taken_out-append first second items)

pub closed_out : {A : Type 0} (place run : ℕ) (front back : List A) → length front ≡ place → run ≤ place → taken_out (closed place run) (front ++ back) ≡ take (place - run) front ++ back
closed_out place zero front back size within = ap (λ us. us ++ back) (sym (take_all (place - 0) front (omega (arith, size))))
closed_out place (suc count) front back size within =
    let end : length front ≡ place - suc count + suc count = omega (arith, size, within) in
    ap (λ us. us ++ drop (place - suc count + suc count) (front ++ back)) (take-append-le (place - suc count) front back (omega (arith, size)))
    ∙ ap (λ us. take (place - suc count) front ++ us) (drop_at front back (place - suc count + suc count) end)

pub size_more : {A : Type 0} (front : List A) (item : A) (place : ℕ) → length front ≡ place → length (front ++ item ∷ []) ≡ place + 1
size_more front item place size = length-append front (item ∷ []) ∙ ap (λ n. n + 1) size

pub takes_from : {A : Type 0} (stroke place run : ℕ) (row : Row) (front items : List A) → length front ≡ place → run ≤ place → length items ≡ length row
    → taken_out (runs_from stroke place run row) (front ++ items) ≡ take (place - run) front ++ without stroke row items
takes_from stroke place run [] front [] size within same = closed_out place run front [] size within
takes_from stroke place run [] front (item ∷ items) size within same = absurd (omega (arith, same))
takes_from stroke place run (entry ∷ row) front [] size within same = absurd (omega (arith, same))
takes_from {A} stroke place run (entry ∷ row) front (item ∷ items) size within same =
    step (is_of stroke entry)
    (takes_from stroke (place + 1) (run + 1) row (front ++ item ∷ []) items (size_more front item place size) (omega (arith, within)) (omega (arith, same)))
    (takes_from stroke (place + 1) 0 row (front ++ item ∷ []) items (size_more front item place size) (omega arith) (omega (arith, same)))
  where
    left : List A
    left = without stroke row items

    longer : List A
    longer = front ++ item ∷ []

    whole_is : longer ++ items ≡ front ++ item ∷ items
    whole_is = append_assoc front (item ∷ []) items

    step : (b : Bool) → taken_out (runs_from stroke (place + 1) (run + 1) row) (longer ++ items) ≡ take (place + 1 - (run + 1)) longer ++ left
        → taken_out (runs_from stroke (place + 1) 0 row) (longer ++ items) ≡ take (place + 1 - 0) longer ++ left
        → taken_out (cond b (runs_from stroke (place + 1) (run + 1) row) (closed place run ++ runs_from stroke (place + 1) 0 row)) (front ++ item ∷ items)
        ≡ take (place - run) front ++ cond b left (item ∷ left)
    step true goes_on ends =
        let count : place + 1 - (run + 1) ≡ place - run = omega arith in
        ap (taken_out (runs_from stroke (place + 1) (run + 1) row)) (sym whole_is)
        ∙ goes_on
        ∙ ap (λ n. take n longer ++ left) count
        ∙ ap (λ us. us ++ left) (take-append-le (place - run) front (item ∷ []) (omega (arith, size)))
    step false goes_on ends =
        let inner : taken_out (runs_from stroke (place + 1) 0 row) (longer ++ items) ≡ front ++ item ∷ left =
        ends ∙ ap (λ us. us ++ left) (take_all (place + 1 - 0) longer (omega (arith, size_more front item place size)))
        ∙ append_assoc front (item ∷ []) left in
        taken_out-append (closed place run) (runs_from stroke (place + 1) 0 row) (front ++ item ∷ items)
        ∙ ap (λ us. taken_out (closed place run) (taken_out (runs_from stroke (place + 1) 0 row) us)) (sym whole_is)
        ∙ ap (taken_out (closed place run)) inner
        ∙ closed_out place run front (item ∷ left) size within

pub takes_out : {A : Type 0} → TakesOut A
takes_out stroke row items same = takes_from stroke 0 0 row [] items refl (omega arith) same

-- ---- each run

pub closed_plain : (place run : ℕ) → All IsPlain (closed place run)
closed_plain place zero = All-nil IsPlain
closed_plain place (suc count) = All-cons IsPlain (removal place (suc count)) [] (record { inserts = refl; removes = omega arith }) (All-nil IsPlain)

pub plain_from : (stroke place run : ℕ) (row : Row) → All IsPlain (runs_from stroke place run row)
plain_from stroke place run [] = closed_plain place run
plain_from stroke place run (entry ∷ row) = step (is_of stroke entry) (plain_from stroke (place + 1) (run + 1) row) (plain_from stroke (place + 1) 0 row)
  where
    step : (b : Bool) → All IsPlain (runs_from stroke (place + 1) (run + 1) row) → All IsPlain (runs_from stroke (place + 1) 0 row)
        → All IsPlain (cond b (runs_from stroke (place + 1) (run + 1) row) (closed place run ++ runs_from stroke (place + 1) 0 row))
    step true goes_on ends = goes_on
    step false goes_on ends = All-append IsPlain (closed place run) (runs_from stroke (place + 1) 0 row) (closed_plain place run) ends

abbrev removes : Operation → ℕ
removes operation = operation.remove

closed_count : (place run : ℕ) → sum_by removes (closed place run) ≡ run
closed_count place zero = refl
closed_count place (suc count) = omega arith

pub count_from : (stroke place run : ℕ) (row : Row) → sum_by removes (runs_from stroke place run row) ≡ run + units_of stroke row
count_from stroke place run [] = closed_count place run ∙ omega arith
count_from stroke place run (entry ∷ row) =
    step (is_of stroke entry) (count_from stroke (place + 1) (run + 1) row) (count_from stroke (place + 1) 0 row)
    ∙ ap (λ n. run + n) (sym (sum_by-cons (λ e. cond (is_of stroke e) 1 0) entry row))
  where
    step : (b : Bool) → sum_by removes (runs_from stroke (place + 1) (run + 1) row) ≡ run + 1 + units_of stroke row
        → sum_by removes (runs_from stroke (place + 1) 0 row) ≡ 0 + units_of stroke row
        → sum_by removes (cond b (runs_from stroke (place + 1) (run + 1) row) (closed place run ++ runs_from stroke (place + 1) 0 row))
        ≡ run + (cond b 1 0 + units_of stroke row)
    step true goes_on ends = goes_on ∙ omega arith
    step false goes_on ends =
        sum_by-append removes (closed place run) (runs_from stroke (place + 1) 0 row)
        ∙ ap (λ n. n + sum_by removes (runs_from stroke (place + 1) 0 row)) (closed_count place run)
        ∙ ap (λ n. run + n) ends

-- ---- whose units they remove

-- the last units of a row are of the stroke
abbrev pub AreOpen : ℕ → ℕ → ℕ → Row → Type 0
AreOpen stroke place run front = (at : ℕ) → place - run ≤ at → at < place → is_unit_of stroke front at ≡ true

pub unit_left : (stroke : ℕ) (front back : Row) (at : ℕ) → at < length front → is_unit_of stroke (front ++ back) at ≡ is_unit_of stroke front at
unit_left stroke front back at within = ap (is_of stroke) (get_or_append_left front back None at within)

pub unit_seam : (stroke : ℕ) (front : Row) (entry : Option Mark) (back : Row) (place : ℕ) → length front ≡ place → is_unit_of stroke (front ++ entry ∷ back) place ≡ is_of stroke entry
unit_seam stroke front entry back place size =
    ap (λ n. is_unit_of stroke (front ++ entry ∷ back) n) (sym size) ∙ ap (is_of stroke) (get_or-append_seam front entry back None)

pub open_more : (stroke place run : ℕ) (front : Row) (entry : Option Mark) → length front ≡ place → run ≤ place → AreOpen stroke place run front → is_of stroke entry ≡ true
    → AreOpen stroke (place + 1) (run + 1) (front ++ entry ∷ [])
open_more stroke place run front entry size within are own at low high = elim (cases_lt at place) [
  | inl below ↦ unit_left stroke front (entry ∷ []) at (omega (arith, below, size)) ∙ are at (omega (arith, low)) below
  | inr above ↦ (let here : at ≡ place = omega (arith, above, high) in ap (is_unit_of stroke (front ++ entry ∷ [])) here ∙ unit_seam stroke front entry [] place size ∙ own)
]

pub none_open : (stroke place : ℕ) (front : Row) → AreOpen stroke place 0 front
none_open stroke place front at low high = absurd (omega (arith, low, high))

closed_own : (stroke place run : ℕ) (front back : Row) → length front ≡ place → run ≤ place → AreOpen stroke place run front → All (RemovesOwn stroke (front ++ back)) (closed place run)
closed_own stroke place zero front back size within are = All-nil (RemovesOwn stroke (front ++ back))
closed_own stroke place (suc count) front back size within are =
    All-cons (RemovesOwn stroke (front ++ back)) (removal place (suc count)) []
    (λ at low high. (let below : at < place = omega (arith, high, within) in unit_left stroke front back at (omega (arith, below, size)) ∙ are at low below))
    (All-nil (RemovesOwn stroke (front ++ back)))

pub own_from : (stroke place run : ℕ) (front row : Row) → length front ≡ place → run ≤ place → AreOpen stroke place run front
    → All (RemovesOwn stroke (front ++ row)) (runs_from stroke place run row)
own_from stroke place run front [] size within are = closed_own stroke place run front [] size within are
own_from stroke place run front (entry ∷ row) size within are =
    step (is_of stroke entry) refl
    (λ count below opened. own_from stroke (place + 1) count (front ++ entry ∷ []) row (size_more front entry place size) below opened)
  where
    whole : Row
    whole = front ++ entry ∷ row

    longer : Row
    longer = front ++ entry ∷ []

    whole_is : longer ++ row ≡ whole
    whole_is = append_assoc front (entry ∷ []) row

    Next : Type 0
    Next = (count : ℕ) → count ≤ place + 1 → AreOpen stroke (place + 1) count longer → All (RemovesOwn stroke (longer ++ row)) (runs_from stroke (place + 1) count row)

    step : (b : Bool) → is_of stroke entry ≡ b → Next
        → All (RemovesOwn stroke whole) (cond b (runs_from stroke (place + 1) (run + 1) row) (closed place run ++ runs_from stroke (place + 1) 0 row))
    step true own next =
        subst (λ r. All (RemovesOwn stroke r) (runs_from stroke (place + 1) (run + 1) row)) whole_is
        (next (run + 1) (omega (arith, within)) (open_more stroke place run front entry size within are own))
    step false other next =
        All-append (RemovesOwn stroke whole) (closed place run) (runs_from stroke (place + 1) 0 row)
        (closed_own stroke place run front (entry ∷ row) size within are)
        (subst (λ r. All (RemovesOwn stroke r) (runs_from stroke (place + 1) 0 row)) whole_is (next 0 (omega arith) (none_open stroke (place + 1) longer)))

pub is_removal : (stroke : ℕ) (row : Row) → IsRemovalOf stroke row (runs stroke row)
is_removal stroke row = record {
  plain = plain_from stroke 0 0 row;
  own = own_from stroke 0 0 [] row refl (omega arith) (none_open stroke 0 []);
  all = count_from stroke 0 0 row ∙ omega arith;
  text = λ text same. takes_out stroke row text same;
  row_left = takes_out stroke row row refl;
}
