-- The laws of marks.
use Rattle.std.proofs.Common.{◌≡◌, ℕ, zero, suc, ◌+◌, ◌<◌, ◌⊎◌, inl, inr, Bool, true, false, cond, ◌&&◌, ◌==◌, List, [], ◌∷◌, length, map, slice_index_or, refl, sym, ◌∙◌, ap, subst, arith}
use Rattle.std.specs.Prelude.{◌||◌, not, filter, count_by, Contains}
use Rattle.std.specs.List.{list_any}
use Rattle.std.proofs.lemmas.Bool.{eqb-true, eq-eqb}
use Rattle.std.proofs.lemmas.List.Sums.{sum_by-cons}
use Rattle.std.proofs.lemmas.List.{length-map, get_or-map, get_or_default}
use Rattle.std.proofs.lemmas.Option.{slice_get_within, get_or_from_slice_get}
use Rattle.pad_merge.specs.declared.origin.Origin.{Origin}
use Rattle.pad_merge.specs.declared.origin.Origin.TheVariants.{First, Second}
use Rattle.pad_merge.specs.Origin.{origins}
use Rattle.pad_merge.proofs.CallerLemmas.{named_at}
use Rattle.pad_merge.proofs.CallerLemmas.{stands_of_second}
use Rattle.pad_stroke.specs.declared.mark.Mark.{Mark}
use Rattle.pad_stroke.specs.InTurn.{no_mark, mark_from, NamesUnit, in_turn}
use Rattle.pad_stroke.specs.Strip.{same_mark, stays, stripped}
use Rattle.pad_stroke.specs.Laws.{MarksStandOnce, MarksComeFromEither, SecondMarksStay, StrippedMarks}
use Rattle.pad_stroke.proofs.Turns.{all_named, contains_at}

-- the test of two marks
second_true : (s t : Bool) → (s && t) ≡ true → t ≡ true
second_true true t is = is
second_true false t is = cc

first_true : (s t : Bool) → (s && t) ≡ true → s ≡ true
first_true true t is = refl
first_true false t is = cc

pub same_true : (first second : Mark) → same_mark first second ≡ true → first ≡ second
same_true first second is =
    let strokes = eqb-true first.stroke second.stroke (first_true (first.stroke == second.stroke) (first.index == second.index) is) in
    let indexes = eqb-true first.index second.index (second_true (first.stroke == second.stroke) (first.index == second.index) is) in
    let mark : ℕ → ℕ → Mark = λ stroke index. record { stroke = stroke; index = index } in
    ap (λ n. mark n first.index) strokes ∙ ap (mark second.stroke) indexes

pub same_self : (mark : Mark) → same_mark mark mark ≡ true
same_self mark =
    ap (λ t. t && (mark.index == mark.index)) (eq-eqb mark.stroke mark.stroke refl) ∙ ap (λ t. true && t) (eq-eqb mark.index mark.index refl)

-- an element of a list
none_in : (mark : Mark) → ¬ (Contains [] mark)
none_in mark (k, below, is) = omega arith

at_head : (x : Mark) (xs : List Mark) (mark : Mark) → x ≡ mark → Contains (x ∷ xs) mark
at_head x xs mark is = (0, omega arith, is)

in_tail : (x : Mark) (xs : List Mark) (mark : Mark) → Contains xs mark → Contains (x ∷ xs) mark
in_tail x xs mark (k, below, is) = (suc k, omega arith, is)

head_or_tail : (x : Mark) (xs : List Mark) (mark : Mark) → Contains (x ∷ xs) mark → (x ≡ mark) ⊎ Contains xs mark
head_or_tail x xs mark (zero, below, is) = inl is
head_or_tail x xs mark (suc k, below, is) = inr (k, omega arith, is)

-- a filter keeps the elements that pass
filter_in : (test : Mark → Bool) (xs : List Mark) (mark : Mark) → Contains xs mark → test mark ≡ true → Contains (filter test xs) mark
filter_in test [] mark contains passes = contains
filter_in test (x ∷ xs) mark contains passes = elim (head_or_tail x xs mark contains) [
  | inl here ↦ subst (λ t. Contains (cond t (x ∷ filter test xs) (filter test xs)) mark) (sym (ap test here ∙ passes)) (at_head x (filter test xs) mark here)
  | inr later ↦ by_test (test x) (filter_in test xs mark later passes)
]
  where
    by_test : (t : Bool) → Contains (filter test xs) mark → Contains (cond t (x ∷ filter test xs) (filter test xs)) mark
    by_test true there = in_tail x (filter test xs) mark there
    by_test false there = there

out_by : (test : Mark → Bool) (x : Mark) (xs : List Mark) (mark : Mark) → (Contains (filter test xs) mark → Contains xs mark × (test mark ≡ true)) → (t : Bool) → test x ≡ t
    → Contains (cond t (x ∷ filter test xs) (filter test xs)) mark → Contains (x ∷ xs) mark × (test mark ≡ true)
out_by test x xs mark rest true is there = elim (head_or_tail x (filter test xs) mark there) [
  | inl here ↦ (at_head x xs mark here, ap test (sym here) ∙ is)
  | inr later ↦ (in_tail x xs mark (rest later).0, (rest later).1)
]
out_by test x xs mark rest false is there = (in_tail x xs mark (rest there).0, (rest there).1)

filter_out : (test : Mark → Bool) (xs : List Mark) (mark : Mark) → Contains (filter test xs) mark → Contains xs mark × (test mark ≡ true)
filter_out test [] mark contains = absurd (none_in mark contains)
filter_out test (x ∷ xs) mark contains = out_by test x xs mark (filter_out test xs mark) (test x) refl contains

-- a mark is none of others
stays_by : (x : Mark) (gone : List Mark) (mark : Mark) → (stays gone mark ≡ true → ¬ (Contains gone mark)) → (t : Bool) → same_mark x mark ≡ t
    → not (t || list_any (λ other. same_mark other mark) gone) ≡ true → ¬ (Contains (x ∷ gone) mark)
stays_by x gone mark rest true same told contains = cc
stays_by x gone mark rest false other told contains = elim (head_or_tail x gone mark contains) [
  | inl here ↦ let same : same_mark x mark ≡ true = ap (λ m. same_mark m mark) here ∙ same_self mark in cc
  | inr later ↦ rest told later
]

pub stays_true : (gone : List Mark) (mark : Mark) → stays gone mark ≡ true → ¬ (Contains gone mark)
stays_true [] mark is contains = none_in mark contains
stays_true (x ∷ gone) mark is contains = stays_by x gone mark (stays_true gone mark) (same_mark x mark) refl is contains

none_by : (x : Mark) (gone : List Mark) (mark : Mark) → ¬ (Contains (x ∷ gone) mark) → stays gone mark ≡ true → (t : Bool) → same_mark x mark ≡ t
    → not (t || list_any (λ other. same_mark other mark) gone) ≡ true
none_by x gone mark none rest true same = absurd (none (at_head x gone mark (same_true x mark same)))
none_by x gone mark none rest false other = rest

pub stays_none : (gone : List Mark) (mark : Mark) → ¬ (Contains gone mark) → stays gone mark ≡ true
stays_none [] mark none = refl
stays_none (x ∷ gone) mark none =
    none_by x gone mark none (stays_none gone mark (λ later. none (in_tail x gone mark later))) (same_mark x mark) refl

pub stripped_marks : StrippedMarks
unfolding stripped
stripped_marks work of mark = (
  (λ contains. let found = filter_out (stays of.marks) work.marks mark contains in (found.0, stays_true of.marks mark found.1)),
  (λ both. filter_in (stays of.marks) work.marks mark both.0 (stays_none of.marks mark both.1)),
)

abbrev times : List Mark → Mark → ℕ
times marks mark = count_by (λ other. same_mark other mark) marks

times_head : (x : Mark) (xs : List Mark) (mark : Mark) → times (x ∷ xs) mark ≡ cond (same_mark x mark) 1 0 + times xs mark
times_head x xs mark = sum_by-cons (λ other. cond (same_mark other mark) 1 0) x xs

abbrev StandsOnce : List Mark → Mark → Type 0
StandsOnce marks mark = (Contains marks mark × (times marks mark ≡ 1)) ⊎ (¬ (Contains marks mark) × (times marks mark ≡ 0))

once_by : (x : Mark) (xs : List Mark) (mark : Mark) → ¬ (Contains xs x) → StandsOnce xs mark → (t : Bool) → same_mark x mark ≡ t → StandsOnce (x ∷ xs) mark
once_by x xs mark other (inl there) true is =
    let here : x ≡ mark = same_true x mark is in
    absurd (other (subst (Contains xs) (sym here) there.0))
once_by x xs mark other (inr nowhere) true is =
    inl (at_head x xs mark (same_true x mark is), times_head x xs mark ∙ ap (λ t. cond t 1 0 + times xs mark) is ∙ ap (λ n. 1 + n) nowhere.1)
once_by x xs mark other (inl there) false is =
    inl (in_tail x xs mark there.0, times_head x xs mark ∙ ap (λ t. cond t 1 0 + times xs mark) is ∙ ap (λ n. 0 + n) there.1)
once_by x xs mark other (inr nowhere) false is =
    let not_here : ¬ (x ≡ mark) = λ here. let same : same_mark x mark ≡ true = ap (λ m. same_mark m mark) here ∙ same_self mark in cc in
    inr (
      (λ contains. elim (head_or_tail x xs mark contains) [ inl here ↦ not_here here | inr later ↦ nowhere.0 later ]),
      times_head x xs mark ∙ ap (λ t. cond t 1 0 + times xs mark) is ∙ ap (λ n. 0 + n) nowhere.1,
    )

pub marks_stand_once : MarksStandOnce
marks_stand_once [] mark once = inr (none_in mark, refl)
marks_stand_once (x ∷ xs) mark once =
    once_by x xs mark once.0 (marks_stand_once xs mark once.1) (same_mark x mark) refl

comes_by : (first second : List Mark) (origin : Origin) (mark : Mark) → NamesUnit (length first) (length second) origin → mark_from first second origin ≡ mark → Contains first mark ⊎ Contains second mark
comes_by first second (First place) mark named is = inl (subst (Contains first) is (contains_at first place named))
comes_by first second (Second place) mark named is = inr (subst (Contains second) is (contains_at second place named))

pub marks_come_from_either : MarksComeFromEither
unfolding in_turn
marks_come_from_either first second size mark counted_first counted_second (k, below, is) =
    let os = origins first.patch second.patch size in
    let f = mark_from first.marks second.marks in
    let within : k < length os = omega (arith, length-map os f) in
    let past = First 0 in
    comes_by first.marks second.marks (slice_index_or os k past) mark (all_named first second size named_at counted_first counted_second k past within)
    (sym (get_or-map f os k past mark within) ∙ is)

pub second_marks_stay : SecondMarksStay
unfolding in_turn
second_marks_stay first second size mark counted (k, below, is) =
    let os = origins first.patch second.patch size in
    let f = mark_from first.marks second.marks in
    let found = stands_of_second first.patch second.patch size k (omega arith) in
    let within = slice_get_within os found.0 (Second k) found.1 in
    let read = get_or_from_slice_get os found.0 (Second k) (First 0) found.1 in
    let there : slice_index_or (map f os) found.0 mark ≡ mark =
    get_or-map f os found.0 (First 0) mark within ∙ ap f read ∙ get_or_default second.marks k no_mark mark below ∙ is in
    (found.0, omega (arith, length-map os f), there)
