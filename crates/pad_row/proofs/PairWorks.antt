-- The two units of a pair have successive marks in works in turn, in carried works and in stripped ones.
use Rattle.std.proofs.Common.{◌≡◌, ℕ, zero, suc, ◌+◌, ◌-◌, ◌<◌, ◌≤◌, ◌⊎◌, inl, inr, Bool, true, false, cond, ◌&&◌, IsTrue, List, [], ◌∷◌, ◌++◌, length, map, take, drop, replicate, slice_index_or, refl, sym, ◌∙◌, ap, subst, arith}
use Rattle.std.specs.Prelude.{Option, Some, None, All, Contains, slice_get, filter, not}
use Rattle.std.specs.List.{range_with_len}
use Rattle.std.specs.Option.{option_map}
use Rattle.std.specs.Char.Utf16.{is_high_surrogate, is_low_surrogate}
use Rattle.std.proofs.lemmas.List.{append-nil, length-map, length-append, length-drop, length-replicate}
use Rattle.std.proofs.lemmas.List.Elements.{All-head, All-tail}
use Rattle.std.proofs.lemmas.List.FromFn.{length-map-range_with_len, length-range_with_len}
use Rattle.pad_text.specs.Text.{IsText, CutsPair}
use Rattle.pad_text.proofs.CallerLemmas.{IsText-nil, IsText-append}
use Rattle.pad_patch.specs.declared.operation.Operation.{Operation}
use Rattle.pad_patch.specs.declared.patch.Patch.{Patch}
use Rattle.pad_patch.specs.Piece.{end_of, patched, inserted, insertions, text_after, length_after}
use Rattle.pad_patch.specs.Misfit.{EndsAfter}
use Rattle.pad_patch.proofs.CallerLemmas.{IsLaid, laid, map-patched, map-map, get-map, get-range, below_get, somes_of, somes-patched, somes-some, replicate-map, length-patched}
use Rattle.pad_merge.specs.declared.origin.Origin.{Origin}
use Rattle.pad_merge.specs.declared.origin.Origin.TheVariants.{First, Second}
use Rattle.pad_merge.specs.UnitSource.{UnitSource, kept_at, new_unit, kept_from, sources_of}
use Rattle.pad_merge.specs.Origin.{origins, named_unit, named_in}
use Rattle.pad_merge.specs.Merge.{merged, CanMerge, CutsNewPair, CutsInserted}
use Rattle.pad_merge.proofs.CallerLemmas.{named_all, length-origins, patched-merged, texts-merged}
use Rattle.pad_stroke.specs.declared.mark.Mark.{Mark}
use Rattle.pad_stroke.specs.Mark.{marks_of}
use Rattle.pad_stroke.specs.Work.{Marked}
use Rattle.pad_stroke.specs.InTurn.{no_mark, mark_from, in_turn}
use Rattle.pad_stroke.specs.Edit.{typed}
use Rattle.pad_stroke.specs.Through.{carried}
use Rattle.pad_stroke.proofs.CallerLemmas.{carried_inserted, carried_marks, length-marks_of, length-typed, patched-one}
use Rattle.pad_row.specs.Laws.{IsCounted}
use Rattle.pad_row.specs.Pairs.{IsNextMark, IsPaired, IsPairedWork, TypedPaired, TurnWhole, TurnUnits, EditUnits, UnitsAreShown, CarriedUnits, with_marks, units_after}
use Rattle.pad_row.proofs.Units.{GoUp, go_up}
use Rattle.pad_row.proofs.PairRows.{Unit2, Units, awaited, Goes, ending, Good, IsUncut, GoodParts, AreUncut, good_copied, good_none}

pub length-marked : (units : List ℕ) (marks : List Mark) → length units ≤ length marks → length (with_marks units marks) ≡ length units
length-marked [] marks enough = refl
length-marked (unit ∷ units) [] enough = absurd (omega (arith, enough))
length-marked (unit ∷ units) (mark ∷ marks) enough = ap suc (length-marked units marks (omega (arith, enough)))

take-marked : (xs ys : List ℕ) (marks : List Mark) → length xs ≤ length marks → take (length xs) (with_marks (xs ++ ys) marks) ≡ with_marks xs marks
take-marked [] ys marks enough = refl
take-marked (x ∷ xs) ys [] enough = absurd (omega (arith, enough))
take-marked (x ∷ xs) ys (mark ∷ marks) enough = ap (λ us. Some (x, mark) ∷ us) (take-marked xs ys marks (omega (arith, enough)))

drop-marked : (xs ys : List ℕ) (marks : List Mark) → length xs ≤ length marks → drop (length xs) (with_marks (xs ++ ys) marks) ≡ with_marks ys (drop (length xs) marks)
drop-marked [] ys marks enough = refl
drop-marked (x ∷ xs) ys [] enough = absurd (omega (arith, enough))
drop-marked (x ∷ xs) ys (mark ∷ marks) enough = drop-marked xs ys marks (omega (arith, enough))

-- parts of paired units
paired_tail : (unit : ℕ) (units : List ℕ) (mark : Mark) (marks : List Mark) → IsPaired (unit ∷ units) (mark ∷ marks) → IsPaired units marks
paired_tail unit units mark marks paired place high low first second = paired (suc place) high low first second

get_first : (xs ys : List ℕ) (place unit : ℕ) → slice_get xs place ≡ Some unit → slice_get (xs ++ ys) place ≡ Some unit
get_first [] ys place unit is = cc
get_first (x ∷ xs) ys zero unit is = is
get_first (x ∷ xs) ys (suc place) unit is = get_first xs ys place unit is

paired_first : (xs ys : List ℕ) (marks : List Mark) → IsPaired (xs ++ ys) marks → IsPaired xs marks
paired_first xs ys marks paired place high low first second is_high is_low =
    paired place high low first second (get_first xs ys place high is_high) (get_first xs ys (suc place) low is_low)

paired_second : (xs ys : List ℕ) (marks : List Mark) → IsPaired (xs ++ ys) marks → IsPaired ys (drop (length xs) marks)
paired_second [] ys marks paired place high low first second is_high is_low up down at_first at_second = paired place high low first second is_high is_low up down at_first at_second
paired_second (x ∷ xs) ys [] paired place high low first second is_high is_low up down at_first at_second = cc
paired_second (x ∷ xs) ys (mark ∷ marks) paired place high low first second is_high is_low up down at_first at_second =
    paired_second xs ys marks (paired_tail x (xs ++ ys) mark marks paired) place high low first second is_high is_low up down at_first at_second

-- units that go up in pairs with successive marks are good
next_marks : (unit low : ℕ) (units : List ℕ) (mark own : Mark) (marks : List Mark) → IsPaired (unit ∷ low ∷ units) (mark ∷ own ∷ marks) → is_high_surrogate unit ≡ true → is_low_surrogate low ≡ true → IsNextMark mark own
next_marks unit low units mark own marks paired high is_low = paired 0 unit low mark own refl refl high is_low refl refl

good_by : (unit : ℕ) (units : List ℕ) (mark : Mark) (marks : List Mark) (test : Bool) → is_high_surrogate unit ≡ test → is_low_surrogate unit ≡ false → GoUp test units → length units ≤ length marks → IsPaired (unit ∷ units) (mark ∷ marks)
    → ((us : List ℕ) (ms : List Mark) → GoUp false us → length us ≤ length ms → IsPaired us ms → length us ≤ length units → Good (with_marks us ms)) → Good (with_marks (unit ∷ units) (mark ∷ marks))
good_by unit units mark marks false high low up enough paired rest =
    let shown : awaited unit mark ≡ None = ap (λ t. cond t (Some mark) None) high in
    let behind = rest units marks up enough (paired_tail unit units mark marks paired) (omega arith) in
    ((low, subst (λ s. Goes s (with_marks units marks)) (sym shown) behind.0), ap (λ s. ending s (with_marks units marks)) shown ∙ behind.1)
good_by unit [] mark marks true high low up enough paired rest = absurd up
good_by unit (next ∷ units) mark [] true high low up enough paired rest = absurd (omega (arith, enough))
good_by unit (next ∷ units) mark (own ∷ marks) true high low up enough paired rest =
    let shown : awaited unit mark ≡ Some mark = ap (λ t. cond t (Some mark) None) high in
    let row = with_marks (next ∷ units) (own ∷ marks) in
    let behind = rest units marks up.2 (omega (arith, enough)) (paired_tail next units own marks (paired_tail unit (next ∷ units) mark (own ∷ marks) paired)) (omega arith) in (
      (low, subst (λ s. Goes s row) (sym shown) (up.0, next_marks unit next units mark own marks paired high up.0, behind.0)),
      ap (λ s. ending s row) shown ∙ behind.1,
    )

-- by the number of units
good_few : (most : ℕ) (units : List ℕ) (marks : List Mark) → length units ≤ most → GoUp false units → length units ≤ length marks → IsPaired units marks → Good (with_marks units marks)
good_few most [] marks few up enough paired = (tt, refl)
good_few most (unit ∷ units) [] few up enough paired = absurd (omega (arith, enough))
good_few zero (unit ∷ units) (mark ∷ marks) few up enough paired = absurd (omega (arith, few))
good_few (suc most) (unit ∷ units) (mark ∷ marks) few up enough paired =
    good_by unit units mark marks (is_high_surrogate unit) refl up.0 up.1 (omega (arith, enough)) paired
    (λ us ms up_us enough_us paired_us shorter. good_few most us ms (omega (arith, shorter, few)) up_us enough_us paired_us)

pub good_marked : (units : List ℕ) (marks : List Mark) → IsText units → length units ≤ length marks → IsPaired units marks → Good (with_marks units marks)
good_marked units marks text enough paired = good_few (length units) units marks (omega arith) (go_up units text) enough paired

abbrev pub InsertsText : Operation → Type 0
InsertsText operation = IsText operation.insert

-- what each operation of a whole work inserts
good_parts : (operations : List Operation) (marks : List Mark) → All InsertsText operations → length (insertions operations) ≤ length marks → IsPaired (insertions operations) marks → GoodParts (with_marks (insertions operations) marks) operations
good_parts [] marks texts enough paired = tt
good_parts (operation ∷ operations) marks texts enough paired =
    let units = operation.insert in
    let rest = insertions operations in
    let sizes = length-append units rest in
    let first : length units ≤ length marks = omega (arith, enough, sizes) in (
      subst Good (sym (take-marked units rest marks first)) (good_marked units marks (All-head InsertsText operation operations texts) first (paired_first units rest marks paired)),
      subst (λ us. GoodParts us operations) (sym (drop-marked units rest marks first))
          (good_parts operations (drop (length units) marks) (All-tail InsertsText operation operations texts) (omega (arith, enough, sizes, length-drop (length units) marks)) (paired_second units rest marks paired)),
    )

-- units of a text alone are not cut
no_unit : (size place : ℕ) (unit : Unit2) → slice_get (replicate {A = Option Unit2} size None) place ≡ Some (Some unit) → ⊥
no_unit zero place unit is = cc
no_unit (suc size) zero unit is = let never : None ≡ Some unit = cc in cc
no_unit (suc size) (suc place) unit is = no_unit size place unit is

uncut_none : (size : ℕ) (operations : List Operation) → AreUncut (replicate size None) operations
uncut_none size [] = tt
uncut_none size (operation ∷ operations) = (
  λ before high low first second follows at_high at_low up down. no_unit size before (high, first) at_high,
  λ before high low first second follows at_high at_low up down. no_unit size before (high, first) at_high,
  uncut_none size operations,
)

-- the units that sources show, and those that with_marks units show
unit_of_source : UnitSource → Option ℕ
unit_of_source (kept_at place) = None
unit_of_source (new_unit unit) = Some unit

abbrev unit_shown : Option Unit2 → Option ℕ
unit_shown None = None
unit_shown (Some (unit, mark)) = Some unit

kept_none : (from count : ℕ) → map unit_of_source (kept_from from count) ≡ replicate count None
unfolding unit_of_source
kept_none from zero = refl
kept_none from (suc count) = ap (λ us. None ∷ us) (kept_none (suc from) count)

new_some : (units : List ℕ) → map unit_of_source (map new_unit units) ≡ map Some units
unfolding unit_of_source
new_some [] = refl
new_some (unit ∷ units) = ap (λ us. Some unit ∷ us) (new_some units)

shown_none : (size : ℕ) → map unit_shown (replicate size None) ≡ replicate size None
shown_none zero = refl
shown_none (suc size) = ap (λ us. None ∷ us) (shown_none size)

shown_marked : (units : List ℕ) (marks : List Mark) → length units ≤ length marks → map unit_shown (with_marks units marks) ≡ map Some units
shown_marked [] marks enough = refl
shown_marked (unit ∷ units) [] enough = absurd (omega (arith, enough))
shown_marked (unit ∷ units) (mark ∷ marks) enough = ap (λ us. Some unit ∷ us) (shown_marked units marks (omega (arith, enough)))

-- the units with their marks after a work
abbrev after_work : Marked → ℕ → Units
after_work work size = patched work.patch (with_marks (inserted work.patch) work.marks) (replicate size None)

same_shown : (work : Marked) (size : ℕ) → length (inserted work.patch) ≤ length work.marks → map unit_of_source (sources_of work.patch size) ≡ map unit_shown (after_work work size)
same_shown work size enough =
    map-patched unit_of_source work.patch (map new_unit (inserted work.patch)) (kept_from 0 size)
    ∙ ap (λ us. patched work.patch us (map unit_of_source (kept_from 0 size))) (new_some (inserted work.patch))
    ∙ ap (patched work.patch (map Some (inserted work.patch))) (kept_none 0 size)
    ∙ sym (map-patched unit_shown work.patch (with_marks (inserted work.patch) work.marks) (replicate size None)
    ∙ ap (λ us. patched work.patch us (map unit_shown (replicate size None))) (shown_marked (inserted work.patch) work.marks enough)
    ∙ ap (patched work.patch (map Some (inserted work.patch))) (shown_none size))

source_there : (o : Option UnitSource) (unit : ℕ) → option_map unit_of_source o ≡ Some (Some unit) → o ≡ Some (new_unit unit)
unfolding unit_of_source
source_there None unit is = cc
source_there (Some (kept_at place)) unit is = let never : None ≡ Some unit = cc in cc
source_there (Some (new_unit own)) unit is = let same : own ≡ unit = cc in ap (λ u. Some (new_unit u)) same

new_at : (work : Marked) (size place unit : ℕ) (mark : Mark) → length (inserted work.patch) ≤ length work.marks → slice_get (after_work work size) place ≡ Some (Some (unit, mark)) → slice_get (sources_of work.patch size) place ≡ Some (new_unit unit)
new_at work size place unit mark enough is =
    source_there (slice_get (sources_of work.patch size) place) unit
    (sym (get-map unit_of_source (sources_of work.patch size) place) ∙ ap (λ us. slice_get us place) (same_shown work size enough)
    ∙ get-map unit_shown (after_work work size) place ∙ ap (option_map unit_shown) is)

uncut_at : (work : Marked) (size place : ℕ) → length (inserted work.patch) ≤ length work.marks → ¬ (CutsInserted work.patch size place) → IsUncut (after_work work size) place
uncut_at work size place enough whole before high low first second follows at_high at_low up down =
    whole (record {
      before = before;
      follows = omega (arith, follows);
      first = high;
      second = low;
      first_stands = new_at work size before high first enough at_high;
      second_stands = new_at work size place low second enough at_low;
      high = up;
      low = down;
    })

uncut_all : (work : Marked) (size : ℕ) (operations : List Operation) → length (inserted work.patch) ≤ length work.marks
    → ((index : ℕ) (operation : Operation) → slice_get operations index ≡ Some operation → (¬ (CutsInserted work.patch size operation.offset)) × (¬ (CutsInserted work.patch size (end_of operation))))
    → AreUncut (after_work work size) operations
uncut_all work size [] enough whole = tt
uncut_all work size (operation ∷ operations) enough whole = (
  uncut_at work size operation.offset enough (whole 0 operation refl).0,
  uncut_at work size (end_of operation) enough (whole 0 operation refl).1,
  uncut_all work size operations enough (λ index later is. whole (suc index) later is),
)

-- units without those of the text
goes_somes : (state : Option Mark) (row : Units) → Goes state row → Goes state (map Some (somes_of row)) × (ending state (map Some (somes_of row)) ≡ ending state row)
goes_somes state [] goes = (tt, refl)
goes_somes None (None ∷ row) goes = goes_somes None row goes
goes_somes (Some mark) (None ∷ row) goes = absurd goes
goes_somes None (Some (unit, mark) ∷ row) goes = let rest = goes_somes (awaited unit mark) row goes.1 in ((goes.0, rest.0), rest.1)
goes_somes (Some before) (Some (unit, mark) ∷ row) goes = let rest = goes_somes None row goes.2 in ((goes.0, goes.1, rest.0), rest.1)

good_somes : (row : Units) → Good row → Good (map Some (somes_of row))
good_somes row good = let found = goes_somes None row good.0 in (found.0, found.1 ∙ good.1)

marked_somes : (units : List ℕ) (marks : List Mark) → map Some (somes_of (with_marks units marks)) ≡ with_marks units marks
marked_somes [] marks = refl
marked_somes (unit ∷ units) [] = refl
marked_somes (unit ∷ units) (mark ∷ marks) = ap (λ us. Some (unit, mark) ∷ us) (marked_somes units marks)

-- good units are paired
high_or_low : (unit : ℕ) → is_high_surrogate unit ≡ true → is_low_surrogate unit ≡ false → is_low_surrogate unit ≡ true → ⊥
high_or_low unit high low is = cc

pub await : (unit : ℕ) (mark : Mark) → is_high_surrogate unit ≡ true → awaited unit mark ≡ Some mark
await unit mark high = ap (λ t. cond t (Some mark) None) high

paired_head : (units : List ℕ) (marks : List Mark) (mark : Mark) (low : ℕ) (second : Mark) → Goes (Some mark) (with_marks units marks) → slice_get units 0 ≡ Some low → slice_get marks 0 ≡ Some second → IsNextMark mark second
paired_head [] marks mark low second goes is at = cc
paired_head (unit ∷ units) [] mark low second goes is at = cc
paired_head (unit ∷ units) (own ∷ marks) mark low second goes is at = let same : own ≡ second = cc in subst (IsNextMark mark) same goes.1

abbrev pub is_there : Option Mark → Bool
is_there None = false
is_there (Some mark) = true

is_there_by : (mark : Mark) (test : Bool) → is_there (cond test (Some mark) None) ≡ test
is_there_by mark true = refl
is_there_by mark false = refl

is_there_awaited : (unit : ℕ) (mark : Mark) → is_there (awaited unit mark) ≡ is_high_surrogate unit
is_there_awaited unit mark = is_there_by mark (is_high_surrogate unit)

pub paired_goes : (state : Option Mark) (units : List ℕ) (marks : List Mark) → GoUp (is_there state) units → Goes state (with_marks units marks) → IsPaired units marks
paired_goes state [] marks up goes place high low first second is_high is_low up_high down_low at_first at_second = cc
paired_goes state (unit ∷ units) [] up goes place high low first second is_high is_low up_high down_low at_first at_second = cc
paired_goes None (unit ∷ units) (mark ∷ marks) up goes zero high low first second is_high is_low up_high down_low at_first at_second =
    let same : unit ≡ high = cc in
    let own : mark ≡ first = cc in
    let told : is_high_surrogate unit ≡ true = ap is_high_surrogate same ∙ up_high in
    subst (λ m. IsNextMark m second) own (paired_head units marks mark low second (subst (λ s. Goes s (with_marks units marks)) (await unit mark told) goes.1) is_low at_second)
paired_goes (Some before) (unit ∷ units) (mark ∷ marks) up goes zero high low first second is_high is_low up_high down_low at_first at_second =
    let same : unit ≡ high = cc in
    let told : is_high_surrogate unit ≡ true = ap is_high_surrogate same ∙ up_high in
    let never : is_high_surrogate unit ≡ false = up.1 in
    cc
paired_goes None (unit ∷ units) (mark ∷ marks) up goes (suc place) high low first second is_high is_low up_high down_low at_first at_second =
    paired_goes (awaited unit mark) units marks (subst (λ t. GoUp t units) (sym (is_there_awaited unit mark)) up.1) goes.1 place high low first second is_high is_low up_high down_low at_first at_second
paired_goes (Some before) (unit ∷ units) (mark ∷ marks) up goes (suc place) high low first second is_high is_low up_high down_low at_first at_second =
    paired_goes None units marks up.2 goes.2 place high low first second is_high is_low up_high down_low at_first at_second

all_texts : (operations : List Operation) → All InsertsText operations → IsText (insertions operations)
all_texts [] texts = IsText-nil
all_texts (operation ∷ operations) texts =
    IsText-append operation.insert (insertions operations) (All-head InsertsText operation operations texts) (all_texts operations (All-tail InsertsText operation operations texts))

pub text_of_whole : (work : Marked) → All InsertsText work.patch.ops → IsText (inserted work.patch)
text_of_whole work texts = all_texts work.patch.ops texts

-- what a merge inserts, with its marks
read_marked : (units : List ℕ) (marks : List Mark) (place unit : ℕ) (past : Option Unit2) → length units ≤ length marks → slice_get units place ≡ Some unit
    → slice_index_or (with_marks units marks) place past ≡ Some (unit, slice_index_or marks place no_mark)
read_marked [] marks place unit past enough is = cc
read_marked (u ∷ units) [] place unit past enough is = absurd (omega (arith, enough))
read_marked (u ∷ units) (mark ∷ marks) zero unit past enough is = let same : u ≡ unit = cc in ap (λ v. Some (v, mark)) same
read_marked (u ∷ units) (mark ∷ marks) (suc place) unit past enough is = read_marked units marks place unit past (omega (arith, enough)) is

module _ (first second : Marked) (enough_first : length (inserted first.patch) ≤ length first.marks) (enough_second : length (inserted second.patch) ≤ length second.marks) where
  named_here : (origin : Origin) (unit : ℕ) → named_unit first.patch second.patch origin ≡ Some unit
      → named_in (Some (0, no_mark)) (with_marks (inserted first.patch) first.marks) (with_marks (inserted second.patch) second.marks) origin ≡ Some (unit, mark_from first.marks second.marks origin)
  named_here (First place) unit is = read_marked (inserted first.patch) first.marks place unit (Some (0, no_mark)) enough_first is
  named_here (Second place) unit is = read_marked (inserted second.patch) second.marks place unit (Some (0, no_mark)) enough_second is

  named_each : (found : List Origin) (units : List ℕ) → map (named_unit first.patch second.patch) found ≡ map Some units
      → map (named_in (Some (0, no_mark)) (with_marks (inserted first.patch) first.marks) (with_marks (inserted second.patch) second.marks)) found ≡ with_marks units (map (mark_from first.marks second.marks) found)
  named_each [] [] named = refl
  named_each [] (unit ∷ units) named = cc
  named_each (origin ∷ found) [] named = cc
  named_each (origin ∷ found) (unit ∷ units) named =
      let here : named_unit first.patch second.patch origin ≡ Some unit = cc in
      let rest : map (named_unit first.patch second.patch) found ≡ map Some units = cc in
      let see = named_in (Some (0, no_mark)) (with_marks (inserted first.patch) first.marks) (with_marks (inserted second.patch) second.marks) in
      ap (λ u. u ∷ map see found) (named_here origin unit here) ∙ ap (λ us. Some (unit, mark_from first.marks second.marks origin) ∷ us) (named_each found units rest)

whole_turn : (first second : Marked) (size : ℕ) → All InsertsText (merged first.patch second.patch size).ops
    → length (map (mark_from first.marks second.marks) (origins first.patch second.patch size)) ≡ length (inserted (merged first.patch second.patch size))
    → IsPaired (inserted (merged first.patch second.patch size)) (map (mark_from first.marks second.marks) (origins first.patch second.patch size)) → IsPairedWork (in_turn first second size)
unfolding in_turn
whole_turn first second size texts counted paired = record { texts = texts; counted = counted; paired = paired }

pub turn_whole : TurnWhole
turn_whole first second size can whole_first whole_second =
    let nothing : Units = replicate size None in
    let long : length nothing ≡ size = length-replicate size None in
    let can_nothing = subst (CanMerge first.patch second.patch) (sym long) can in
    let enough_first : length (inserted first.patch) ≤ length first.marks = omega (arith, whole_first.counted) in
    let enough_second : length (inserted second.patch) ≤ length second.marks = omega (arith, whole_second.counted) in
    let firsts = with_marks (inserted first.patch) first.marks in
    let seconds = with_marks (inserted second.patch) second.marks in
    let count_first : length firsts ≡ length (inserted first.patch) = length-marked (inserted first.patch) first.marks enough_first in
    let count_second : length seconds ≡ length (inserted second.patch) = length-marked (inserted second.patch) second.marks enough_second in
    let middle = after_work first size in
    let size_middle : length middle ≡ length_after first.patch size =
    length-patched first.patch firsts nothing count_first (subst (λ n. (index : ℕ) → ¬ (EndsAfter first.patch n index)) (sym long) can.first_inside) ∙ ap (length_after first.patch) long in
    let good_middle : Good middle =
    good_copied nothing firsts 0 (length nothing) first.patch.ops refl (laid first.patch (length nothing) can_nothing.first_ordered can_nothing.first_inside) (good_none size) (uncut_none size first.patch.ops)
    (good_parts first.patch.ops first.marks whole_first.texts enough_first whole_first.paired) in
    let good_last : Good (patched second.patch seconds middle) =
    good_copied middle seconds 0 (length middle) second.patch.ops refl
    (laid second.patch (length middle) can.second_ordered (subst (λ n. (index : ℕ) → ¬ (EndsAfter second.patch n index)) (sym size_middle) can.second_inside))
    good_middle (uncut_all first size second.patch.ops enough_first (λ index operation is. (can.starts_whole index operation is, can.ends_whole index operation is)))
    (good_parts second.patch.ops second.marks whole_second.texts enough_second whole_second.paired) in
    let found = origins first.patch second.patch size in
    let patch = merged first.patch second.patch size in
    let marks = map (mark_from first.marks second.marks) found in
    let counted : length marks ≡ length (inserted patch) = length-map found (mark_from first.marks second.marks) ∙ length-origins first.patch second.patch size in
    let enough : length (inserted patch) ≤ length marks = omega (arith, counted) in
    let all = with_marks (inserted patch) marks in
    let same : patched patch all nothing ≡ patched second.patch seconds middle =
    ap (λ us. patched patch us nothing) (sym (named_each first second enough_first enough_second found (inserted patch) (named_all first.patch second.patch size)))
    ∙ ap (λ n. patched (merged first.patch second.patch n) (map (named_in (Some (0, no_mark)) firsts seconds) (origins first.patch second.patch n)) nothing) (sym long)
    ∙ patched-merged (Some (0, no_mark)) first.patch second.patch firsts seconds nothing can_nothing count_first count_second in
    let none_there : map (λ _. None) (range_with_len 0 size) ≡ nothing = replicate-map None (range_with_len 0 size) ∙ ap (λ n. replicate n None) (length-range_with_len 0 size) in
    let news = somes_of all in
    let news_count : length news ≡ length (inserted patch) =
    sym (length-map news Some) ∙ ap length (marked_somes (inserted patch) marks) ∙ length-marked (inserted patch) marks enough in
    let left : somes_of (patched patch all nothing) ≡ news =
    ap (λ us. somes_of (patched patch us nothing)) (sym (marked_somes (inserted patch) marks)) ∙ ap (λ us. somes_of (patched patch (map Some news) us)) (sym none_there)
    ∙ somes-patched patch news (range_with_len 0 size) news_count in
    let good : Good all =
    subst Good (ap (map Some) (ap somes_of (sym same) ∙ left) ∙ marked_somes (inserted patch) marks) (good_somes (patched second.patch seconds middle) good_last) in
    let texts = texts-merged first.patch second.patch size can whole_first.texts whole_second.texts in
    let work : Marked = record { patch = patch; marks = marks } in
    let paired = paired_goes None (inserted patch) marks (go_up (inserted patch) (all_texts patch.ops texts)) good.0 in
    whole_turn first second size texts counted paired

-- what one edit types
read_typed : (stroke count place : ℕ) (mark : Mark) → slice_get (marks_of stroke count) place ≡ Some mark → (place < count) → mark ≡ record { stroke = stroke; index = place }
read_typed stroke count place mark is below =
    let make : ℕ → Mark = λ index. record { stroke = stroke; index = index } in
    let there : slice_get (marks_of stroke count) place ≡ Some (make place) =
    get-map make (range_with_len 0 count) place ∙ ap (option_map make) (get-range 0 count place below) ∙ ap (λ n. Some (make n)) (omega arith) in
    let same : Some mark ≡ Some (make place) = sym is ∙ there in
    cc

pub typed_paired : TypedPaired
typed_paired stroke units place high low first second is_high is_low up down at_first at_second =
    let below = below_get low units (suc place) is_low in
    let one = read_typed stroke (length units) place first at_first (omega (arith, below)) in
    let two = read_typed stroke (length units) (suc place) second at_second below in
    (ap (λ (m : Mark). m.stroke) two ∙ sym (ap (λ (m : Mark). m.stroke) one), ap (λ (m : Mark). m.index) two ∙ omega (arith, ap (λ (m : Mark). m.index) one))

-- the units with their marks after two works in turn
pub turn_units : TurnUnits
unfolding in_turn
turn_units first second row can counted_first counted_second =
    let size = length row in
    let enough_first : length (inserted first.patch) ≤ length first.marks = omega (arith, counted_first) in
    let enough_second : length (inserted second.patch) ≤ length second.marks = omega (arith, counted_second) in
    let firsts = with_marks (inserted first.patch) first.marks in
    let seconds = with_marks (inserted second.patch) second.marks in
    let patch = merged first.patch second.patch size in
    ap (λ us. patched patch us row) (sym (named_each first second enough_first enough_second (origins first.patch second.patch size) (inserted patch) (named_all first.patch second.patch size)))
    ∙ patched-merged (Some (0, no_mark)) first.patch second.patch firsts seconds row can
    (length-marked (inserted first.patch) first.marks enough_first) (length-marked (inserted second.patch) second.marks enough_second)

pub carried_units : CarriedUnits
carried_units work by after =
    ap (λ us. with_marks us (carried work by after).marks) (carried_inserted work by after) ∙ ap (with_marks (inserted work.patch)) (carried_marks work by after)

pub edit_units : EditUnits
edit_units work operation stroke row can counted =
    let marks = marks_of stroke (length operation.insert) in
    let news = with_marks operation.insert marks in
    let enough : length operation.insert ≤ length marks = omega (arith, length-marks_of stroke (length operation.insert)) in
    turn_units work (typed work operation stroke) row can counted (length-typed work operation stroke)
    ∙ ap (λ us. patched (typed work operation stroke).patch (with_marks us marks) (units_after work row)) (append-nil operation.insert)
    ∙ patched-one operation work.patch.before news (units_after work row) (length-marked operation.insert marks enough)

pub units_are_shown : UnitsAreShown
units_are_shown work size counted =
    let all = with_marks (inserted work.patch) work.marks in
    let news = somes_of all in
    let enough : length (inserted work.patch) ≤ length work.marks = omega (arith, counted) in
    let nothing : Units = replicate size None in
    let none_there : map (λ _. None) (range_with_len 0 size) ≡ nothing = replicate-map None (range_with_len 0 size) ∙ ap (λ n. replicate n None) (length-range_with_len 0 size) in
    let news_count : length news ≡ length (inserted work.patch) =
    sym (length-map news Some) ∙ ap length (marked_somes (inserted work.patch) work.marks) ∙ length-marked (inserted work.patch) work.marks enough in
    ap (map Some)
    (ap (λ us. somes_of (patched work.patch us nothing)) (sym (marked_somes (inserted work.patch) work.marks)) ∙ ap (λ us. somes_of (patched work.patch (map Some news) us)) (sym none_there)
    ∙ somes-patched work.patch news (range_with_len 0 size) news_count)
    ∙ marked_somes (inserted work.patch) work.marks
