-- A work is stripped of whole pairs.
use Rattle.std.proofs.Common.{◌≡◌, ℕ, zero, suc, ◌+◌, ◌-◌, ◌<◌, ◌≤◌, ◌⊎◌, inl, inr, Bool, true, false, cond, IsTrue, List, [], ◌∷◌, length, map, slice_index_or, refl, sym, ◌∙◌, ap, subst, arith, add-one}
use Rattle.std.specs.Prelude.{Option, Some, None, All, Contains, slice_get, slice_index, filter}
use Rattle.std.specs.Option.{option_map}
use Rattle.std.specs.Char.Utf16.{is_high_surrogate, is_low_surrogate}
use Rattle.std.proofs.lemmas.List.{length-map}
use Rattle.std.proofs.lemmas.Option.{slice_get-get_or, get_or_from_slice_get}
use Rattle.pad_text.specs.Text.{IsText, CutsPair}
use Rattle.pad_text.specs.declared.name.Name.{Name}
use Rattle.pad_patch.specs.declared.operation.Operation.{Operation}
use Rattle.pad_patch.specs.declared.patch.Patch.{Patch}
use Rattle.pad_patch.specs.Piece.{inserted}
use Rattle.pad_patch.proofs.CallerLemmas.{at_has, has_at, contains_has, has_contains, get-map, get_below, below_get}
use Rattle.pad_stroke.specs.declared.mark.Mark.{Mark}
use Rattle.pad_stroke.specs.Work.{Marked, moved_to}
use Rattle.pad_stroke.specs.InTurn.{no_mark}
use Rattle.pad_stroke.specs.Through.{carried}
use Rattle.pad_stroke.specs.Strip.{stays, staying, KeepsPairs, stripped}
use Rattle.pad_stroke.proofs.CallerLemmas.{stays_true, stays_none, carried_marks, carried_inserted, carried_texts, stripped_counted, stripped_inserted, stripped_is_filter, stripped_texts, pairs_stay_whole}
use Rattle.pad_row.specs.Pairs.{IsNextMark, IsPaired, IsPairedWork, AreTyped, CarriedWhole, StrippedWhole, StripsWhole, MovedWhole, MovedTyped, StrippedUnits, with_marks, stays_with}
use Rattle.pad_row.proofs.Counts.{among}
use Rattle.pad_row.proofs.Units.{GoUp, go_up, low_after, high_before}
use Rattle.pad_row.proofs.TypedUnits.{typed_there}
use Rattle.pad_row.proofs.PairRows.{Units, awaited, Goes, ending, Good}
use Rattle.pad_row.proofs.PairWorks.{paired_goes, await, text_of_whole}

pub carried_whole : CarriedWhole
carried_whole work by after whole = record {
  texts = carried_texts work by after whole.texts;
  counted = ap length (carried_marks work by after) ∙ whole.counted ∙ ap length (sym (carried_inserted work by after));
  paired = subst (λ marks. IsPaired (inserted (carried work by after).patch) marks) (sym (carried_marks work by after))
      (subst (λ units. IsPaired units work.marks) (sym (carried_inserted work by after)) whole.paired);
}

mark_of : ℕ → ℕ → Mark
mark_of stroke index = record { stroke = stroke; index = index }

same_fields : (one other : Mark) → one.stroke ≡ other.stroke → one.index ≡ other.index → one ≡ other
unfolding mark_of
same_fields one other strokes indexes = ap (λ n. mark_of n one.index) strokes ∙ ap (mark_of other.stroke) indexes

-- the marks of the units of a work
unit_at : (typed : Mark → ℕ) (work : Marked) (place : ℕ) (mark : Mark) → AreTyped typed work → slice_get work.marks place ≡ Some mark → slice_get (inserted work.patch) place ≡ Some (typed mark)
unit_at typed work place mark are is = ap (λ us. slice_get us place) (sym are) ∙ get-map typed work.marks place ∙ ap (option_map typed) is

-- the next mark stands in a whole work after a mark of a high surrogate
next_in : (typed : Mark → ℕ) (of : Marked) (first second : Mark) → IsPairedWork of → AreTyped typed of → is_high_surrogate (typed first) ≡ true → IsNextMark first second → Contains of.marks first → Contains of.marks second
next_in typed of first second whole are high next contains =
    let at = has_at first of.marks (contains_has first of.marks contains) in
    let unit = unit_at typed of at.0 first are at.1 in
    let low = low_after (inserted of.patch) false at.0 (typed first) (go_up (inserted of.patch) (text_of_whole of whole.texts)) unit high in
    let below = below_get low.0 (inserted of.patch) (suc at.0) low.1 in
    let counted = whole.counted in
    let found = get_below of.marks (suc at.0) (omega (arith, below, counted)) in
    let follows = whole.paired at.0 (typed first) low.0 first found.0 unit low.1 high low.2 at.1 found.1 in
    let same = same_fields found.0 second (follows.0 ∙ sym next.0) (follows.1 ∙ sym next.1) in
    has_contains second of.marks (at_has second of.marks (suc at.0) (found.1 ∙ ap Some same))

same_index : (a b c : ℕ) → c ≡ a + 1 → c ≡ b + 1 → a ≡ b
same_index a b c first second = omega (arith, first, second)

-- and the mark before it before a mark of a low surrogate
before_in : (typed : Mark → ℕ) (of : Marked) (first second : Mark) → IsPairedWork of → AreTyped typed of → is_low_surrogate (typed second) ≡ true → IsNextMark first second → Contains of.marks second → Contains of.marks first
before_in typed of first second whole are low next contains =
    let at = has_at second of.marks (contains_has second of.marks contains) in
    let unit = unit_at typed of at.0 second are at.1 in
    let high = high_before (inserted of.patch) false at.0 (typed second) (go_up (inserted of.patch) (text_of_whole of whole.texts)) unit low (inl refl) in
    let below = below_get high.1 (inserted of.patch) high.0 high.3 in
    let counted = whole.counted in
    let found = get_below of.marks high.0 (omega (arith, below, counted)) in
    let next_unit = ap (slice_get (inserted of.patch)) high.2 ∙ unit in
    let next_mark = ap (slice_get of.marks) high.2 ∙ at.1 in
    let follows = whole.paired high.0 high.1 (typed second) found.0 second high.3 next_unit high.4 low found.1 next_mark in
    let same = same_fields found.0 first (sym follows.0 ∙ next.0) (same_index found.0.index first.index second.index follows.1 next.1) in
    has_contains first of.marks (at_has first of.marks high.0 (found.1 ∙ ap Some same))

-- marks of which both are gone or neither
same_by : (gone : List Mark) (first second : Mark) → (Contains gone first → Contains gone second) → (Contains gone second → Contains gone first) → (one other : Bool) → stays gone first ≡ one → stays gone second ≡ other → one ≡ other
same_by gone first second there back true true is also = refl
same_by gone first second there back false false is also = refl
same_by gone first second there back true false is also =
    let stay : stays gone second ≡ true = stays_none gone second (λ contains. stays_true gone first is (back contains)) in
    cc
same_by gone first second there back false true is also =
    let stay : stays gone first ≡ true = stays_none gone first (λ contains. stays_true gone second also (there contains)) in
    cc

pub strips_whole : StripsWhole
strips_whole work of typed whole whole_of are are_of place cut =
    let units = inserted work.patch in
    let here : place + 1 - 1 ≡ place = omega arith in
    let next : place + 1 ≡ suc place = omega arith in
    let end = cut.before_end in
    let counted = whole.counted in
    let first = slice_index_or work.marks place no_mark in
    let second = slice_index_or work.marks (place + 1) no_mark in
    let high = slice_index units place in
    let low = slice_index units (place + 1) in
    let is_high : is_high_surrogate high ≡ true = ap (λ n. is_high_surrogate (slice_index units n)) (sym here) ∙ cut.high in
    let is_low : is_low_surrogate low ≡ true = cut.low in
    let at_high : slice_get units place ≡ Some high = slice_get-get_or units place 0 (omega (arith, end)) in
    let at_low : slice_get units (place + 1) ≡ Some low = slice_get-get_or units (place + 1) 0 end in
    let at_first : slice_get work.marks place ≡ Some first = slice_get-get_or work.marks place no_mark (omega (arith, end, counted)) in
    let at_second : slice_get work.marks (place + 1) ≡ Some second = slice_get-get_or work.marks (place + 1) no_mark (omega (arith, end, counted)) in
    let follows = whole.paired place high low first second at_high (ap (slice_get units) (sym next) ∙ at_low) is_high is_low at_first (ap (slice_get work.marks) (sym next) ∙ at_second) in
    let first_typed : typed first ≡ high = typed_there typed work.marks units place high are at_high in
    let second_typed : typed second ≡ low = typed_there typed work.marks units (place + 1) low are at_low in
    same_by of.marks first second
    (next_in typed of first second whole_of are_of (ap is_high_surrogate first_typed ∙ is_high) follows)
    (before_in typed of first second whole_of are_of (ap is_low_surrogate second_typed ∙ is_low) follows)
    (stays of.marks first) (stays of.marks second) refl refl

-- pairs of which both units stay or neither, by indexes
abbrev Keeps : List Mark → List ℕ → List Mark → Type 0
Keeps gone units marks =
    (place high low : ℕ) (first second : Mark) → slice_get units place ≡ Some high → slice_get units (suc place) ≡ Some low → is_high_surrogate high ≡ true → is_low_surrogate low ≡ true
    → slice_get marks place ≡ Some first → slice_get marks (suc place) ≡ Some second → stays gone first ≡ stays gone second

keeps_of : (gone : List Mark) (units : List ℕ) (marks : List Mark) → KeepsPairs gone units marks → Keeps gone units marks
keeps_of gone units marks keeps place high low first second at_high at_low up down at_first at_second =
    let next : suc place ≡ place + 1 = omega arith in
    let here : place ≡ place + 1 - 1 = omega arith in
    let below = below_get low units (suc place) at_low in
    let high_there : slice_index units (place + 1 - 1) ≡ high = ap (slice_index units) (sym here) ∙ get_or_from_slice_get units place high 0 at_high in
    let low_there : slice_index units (place + 1) ≡ low = ap (slice_index units) (sym next) ∙ get_or_from_slice_get units (suc place) low 0 at_low in
    let cut : CutsPair units (place + 1) = record {
      after_start = omega arith;
      before_end = omega (arith, below);
      high = ap is_high_surrogate high_there ∙ up;
      low = ap is_low_surrogate low_there ∙ down;
    } in
    ap (stays gone) (sym (get_or_from_slice_get marks place first no_mark at_first))
    ∙ keeps place cut
    ∙ ap (λ n. stays gone (slice_index_or marks n no_mark)) (sym next) ∙ ap (stays gone) (get_or_from_slice_get marks (suc place) second no_mark at_second)

-- one unit that is no high surrogate, in front of units that are good
one_left : (unit : ℕ) (mark : Mark) (us : List ℕ) (ms : List Mark) (test : Bool) → is_high_surrogate unit ≡ false → is_low_surrogate unit ≡ false → Good (with_marks us ms)
    → Good (with_marks (cond test (unit ∷ us) us) (cond test (mark ∷ ms) ms))
one_left unit mark us ms false high low rest = rest
one_left unit mark us ms true high low rest =
    let shown : awaited unit mark ≡ None = ap (λ t. cond t (Some mark) None) high in
    ((low, subst (λ s. Goes s (with_marks us ms)) (sym shown) rest.0), ap (λ s. ending s (with_marks us ms)) shown ∙ rest.1)

-- a pair, both of whose units stay or neither
two_left : (unit low : ℕ) (mark own : Mark) (us : List ℕ) (ms : List Mark) (one other : Bool) → one ≡ other → is_high_surrogate unit ≡ true → is_low_surrogate unit ≡ false → is_low_surrogate low ≡ true → IsNextMark mark own → Good (with_marks us ms)
    → Good (with_marks (cond one (unit ∷ cond other (low ∷ us) us) (cond other (low ∷ us) us)) (cond one (mark ∷ cond other (own ∷ ms) ms) (cond other (own ∷ ms) ms)))
two_left unit low mark own us ms false false same high no_low is_low next rest = rest
two_left unit low mark own us ms true false same high no_low is_low next rest = cc
two_left unit low mark own us ms false true same high no_low is_low next rest = cc
two_left unit low mark own us ms true true same high no_low is_low next rest =
    let row = with_marks (low ∷ us) (own ∷ ms) in
    ((no_low, subst (λ s. Goes s row) (sym (await unit mark high)) (is_low, next, rest.0)), ap (λ s. ending s row) (await unit mark high) ∙ rest.1)

tail_keeps : (gone : List Mark) (unit : ℕ) (units : List ℕ) (mark : Mark) (marks : List Mark) → Keeps gone (unit ∷ units) (mark ∷ marks) → Keeps gone units marks
tail_keeps gone unit units mark marks keeps place = keeps (suc place)

tail_paired : (unit : ℕ) (units : List ℕ) (mark : Mark) (marks : List Mark) → IsPaired (unit ∷ units) (mark ∷ marks) → IsPaired units marks
tail_paired unit units mark marks paired place = paired (suc place)

-- what is left of units that go up in pairs
abbrev Left : List Mark → List ℕ → List Mark → Type 0
Left gone units marks = Good (with_marks (staying gone units marks) (filter (stays gone) marks))

left_by : (gone : List Mark) (unit : ℕ) (units : List ℕ) (mark : Mark) (marks : List Mark) (test : Bool) → is_high_surrogate unit ≡ test → is_low_surrogate unit ≡ false → GoUp test units → length units ≤ length marks
    → IsPaired (unit ∷ units) (mark ∷ marks) → Keeps gone (unit ∷ units) (mark ∷ marks)
    → ((us : List ℕ) (ms : List Mark) → GoUp false us → length us ≤ length ms → IsPaired us ms → Keeps gone us ms → length us ≤ length units → Left gone us ms) → Left gone (unit ∷ units) (mark ∷ marks)
left_by gone unit units mark marks false high low up enough paired keeps rest =
    one_left unit mark (staying gone units marks) (filter (stays gone) marks) (stays gone mark) high low
    (rest units marks up enough (tail_paired unit units mark marks paired) (tail_keeps gone unit units mark marks keeps) (omega arith))
left_by gone unit [] mark marks true high low up enough paired keeps rest = absurd up
left_by gone unit (next ∷ units) mark [] true high low up enough paired keeps rest = absurd (omega (arith, enough))
left_by gone unit (next ∷ units) mark (own ∷ marks) true high low up enough paired keeps rest =
    two_left unit next mark own (staying gone units marks) (filter (stays gone) marks) (stays gone mark) (stays gone own) (keeps 0 unit next mark own refl refl high up.0 refl refl) high low up.0
    (paired 0 unit next mark own refl refl high up.0 refl refl)
    (rest units marks up.2 (omega (arith, enough)) (tail_paired next units own marks (tail_paired unit (next ∷ units) mark (own ∷ marks) paired))
    (tail_keeps gone next units own marks (tail_keeps gone unit (next ∷ units) mark (own ∷ marks) keeps)) (omega arith))

left_few : (gone : List Mark) (most : ℕ) (units : List ℕ) (marks : List Mark) → length units ≤ most → GoUp false units → length units ≤ length marks → IsPaired units marks → Keeps gone units marks → Left gone units marks
left_few gone most [] marks few up enough paired keeps = (tt, refl)
left_few gone most (unit ∷ units) [] few up enough paired keeps = absurd (omega (arith, enough))
left_few gone zero (unit ∷ units) (mark ∷ marks) few up enough paired keeps = absurd (omega (arith, few))
left_few gone (suc most) (unit ∷ units) (mark ∷ marks) few up enough paired keeps =
    left_by gone unit units mark marks (is_high_surrogate unit) refl up.0 up.1 (omega (arith, enough)) paired keeps
    (λ us ms up_us enough_us paired_us keeps_us shorter. left_few gone most us ms (omega (arith, shorter, few)) up_us enough_us paired_us keeps_us)

pub stripped_whole : StrippedWhole
stripped_whole work of whole keeps =
    let units = inserted work.patch in
    let counted = whole.counted in
    let texts = stripped_texts work of (pairs_stay_whole work of whole.counted whole.texts keeps) in
    let left = left_few of.marks (length units) units work.marks (omega arith) (go_up units (text_of_whole work whole.texts)) (omega (arith, counted)) whole.paired (keeps_of of.marks units work.marks keeps) in
    let up = go_up (inserted (stripped work of).patch) (text_of_whole (stripped work of) texts) in
    let same_units = stripped_inserted work of whole.counted in
    record {
      texts = texts;
      counted = stripped_counted work of whole.counted;
      paired = paired_goes None (inserted (stripped work of).patch) (stripped work of).marks up
          (subst (λ us. Goes None (with_marks us (stripped work of).marks)) (sym same_units)
          (subst (λ ms. Goes None (with_marks (staying of.marks units work.marks) ms)) (sym (stripped_is_filter work of)) left.0));
    }

pub moved_whole : MovedWhole
moved_whole work before whole = record { texts = whole.texts; counted = whole.counted; paired = whole.paired }

pub moved_typed : MovedTyped
moved_typed work before typed are = are

-- the units that stay, with their marks
units_left : (gone : List Mark) (units : List ℕ) (marks : List Mark) → with_marks (staying gone units marks) (filter (stays gone) marks) ≡ filter (stays_with gone) (with_marks units marks)
units_left gone [] marks = refl
units_left gone (unit ∷ units) [] = refl
units_left gone (unit ∷ units) (mark ∷ marks) = by_test (staying gone units marks) (filter (stays gone) marks) (filter (stays_with gone) (with_marks units marks)) (stays gone mark) (units_left gone units marks)
  where
    by_test : (us : List ℕ) (ms : List Mark) (left : Units) (test : Bool) → with_marks us ms ≡ left
        → with_marks (cond test (unit ∷ us) us) (cond test (mark ∷ ms) ms) ≡ cond test (Some (unit, mark) ∷ left) left
    by_test us ms left true same = ap (λ row. Some (unit, mark) ∷ row) same
    by_test us ms left false same = same

pub stripped_units : StrippedUnits
stripped_units work of counted =
    ap (λ us. with_marks us (stripped work of).marks) (stripped_inserted work of counted)
    ∙ ap (with_marks (staying of.marks (inserted work.patch) work.marks)) (stripped_is_filter work of)
    ∙ units_left of.marks (inserted work.patch) work.marks
