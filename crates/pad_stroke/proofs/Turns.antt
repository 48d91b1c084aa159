-- Two works in turn are a work.
use Rattle.std.proofs.Common.{◌≡◌, ℕ, zero, suc, ◌+◌, ◌-◌, ◌<◌, ◌⊎◌, inl, inr, List, [], ◌∷◌, ◌++◌, length, map, take, drop, slice_index_or, sym, ◌∙◌, ap, subst, arith}
use Rattle.std.specs.Prelude.{◌≢◌, Some, slice_get, Contains, All}
use Rattle.std.proofs.lemmas.Bool.{cases_lt}
use Rattle.std.proofs.lemmas.List.{length-map, get_or-map, append-nil, append_assoc, take_all, get_or_default, length-drop}
use Rattle.std.proofs.lemmas.List.FromFn.{length-map-range_with_len, get_or-map-range_with_len}
use Rattle.std.proofs.lemmas.Option.{slice_get-get_or, slice_get_within}
use Rattle.pad_text.specs.Text.{IsText, CutsPair}
use Rattle.pad_text.specs.declared.name.Name.{Name}
use Rattle.pad_patch.specs.declared.operation.Operation.{Operation}
use Rattle.pad_patch.specs.declared.patch.Patch.{Patch}
use Rattle.pad_patch.specs.Piece.{end_of, text_after, inserted}
use Rattle.pad_patch.specs.Misfit.{CanApply}
use Rattle.pad_patch.proofs.CallerLemmas.{text_after-copy}
use Rattle.pad_merge.specs.declared.origin.Origin.{Origin}
use Rattle.pad_merge.specs.declared.origin.Origin.TheVariants.{First, Second}
use Rattle.pad_merge.specs.Merge.{merged, CanMerge, IsNormal}
use Rattle.pad_merge.specs.Origin.{origins, named_unit}
use Rattle.pad_merge.proofs.CallerLemmas.{texts-merged}
use Rattle.pad_merge.specs.Laws.{OneOriginEach, OriginsNameUnits, NoOriginTwice}
use Rattle.pad_stroke.specs.declared.mark.Mark.{Mark}
use Rattle.pad_list.specs.Number.{NoRepeat}
use Rattle.pad_stroke.specs.Mark.{NoneInBoth, marks_of}
use Rattle.pad_stroke.specs.InTurn.{no_mark, mark_from, NamesUnit, in_turn}
use Rattle.pad_stroke.specs.Work.{Marked, IsWork}
use Rattle.pad_stroke.specs.Edit.{shown_after, IsAllowed, typed}
use Rattle.pad_stroke.proofs.Once.{by_places, from_places}

-- a mark stands at one place alone
one_place : (marks : List Mark) (i j : ℕ) → NoRepeat marks → i < length marks → j < length marks → slice_index_or marks i no_mark ≡ slice_index_or marks j no_mark → i ≡ j
one_place marks i j once within_i within_j same = elim (cases_lt i j) [
  | inl before ↦ absurd (by_places marks once i j no_mark before within_j same)
  | inr not_before ↦ elim (cases_lt j i) [
    | inl behind ↦ absurd (by_places marks once j i no_mark behind within_i (sym same))
    | inr not_behind ↦ omega arith
  ]
]

pub contains_at : (marks : List Mark) (i : ℕ) → i < length marks → Contains marks (slice_index_or marks i no_mark)
contains_at marks i within = (i, within, get_or_default marks i (slice_index_or marks i no_mark) no_mark within)

-- units with the same mark come from the same place
same_origin : (first second : List Mark) → NoRepeat first → NoRepeat second → NoneInBoth first second → (a b : Origin)
    → NamesUnit (length first) (length second) a → NamesUnit (length first) (length second) b → mark_from first second a ≡ mark_from first second b → a ≡ b
same_origin first second once_first once_second apart (First i) (First j) named_a named_b same = ap First (one_place first i j once_first named_a named_b same)
same_origin first second once_first once_second apart (First i) (Second j) named_a named_b same =
    absurd (apart (slice_index_or first i no_mark) (contains_at first i named_a) (subst (Contains second) (sym same) (contains_at second j named_b)))
same_origin first second once_first once_second apart (Second i) (First j) named_a named_b same =
    absurd (apart (slice_index_or first j no_mark) (contains_at first j named_b) (subst (Contains second) same (contains_at second i named_a)))
same_origin first second once_first once_second apart (Second i) (Second j) named_a named_b same = ap Second (one_place second i j once_second named_a named_b same)

named_by : (first second : Patch) (a b : ℕ) (origin : Origin) (unit : ℕ) → a ≡ length (inserted first) → b ≡ length (inserted second)
    → named_unit first second origin ≡ Some unit → NamesUnit a b origin
named_by first second a b (First place) unit count_a count_b is = let within = slice_get_within (inserted first) place unit is in omega arith
named_by first second a b (Second place) unit count_a count_b is = let within = slice_get_within (inserted second) place unit is in omega arith

-- one work and then marked operations
module _ (first second : Marked) (size : ℕ) (names : OriginsNameUnits) (counted_first : length first.marks ≡ length (inserted first.patch))
    (counted_second : length second.marks ≡ length (inserted second.patch)) where
  pub all_named : All (NamesUnit (length first.marks) (length second.marks)) (origins first.patch second.patch size)
  all_named k default below =
      let found = names first.patch second.patch size k (slice_index_or (origins first.patch second.patch size) k default)
      (slice_get-get_or (origins first.patch second.patch size) k default below) in
      named_by first.patch second.patch (length first.marks) (length second.marks) _ found.0 counted_first counted_second found.1

  pub NoRepeat-in_turn : NoOriginTwice → CanMerge first.patch second.patch size → NoRepeat first.marks → NoRepeat second.marks → NoneInBoth first.marks second.marks
      → NoRepeat (map (mark_from first.marks second.marks) (origins first.patch second.patch size))
  NoRepeat-in_turn once can once_first once_second apart =
      let os = origins first.patch second.patch size in
      let f = mark_from first.marks second.marks in
      from_places (map f os) (λ i j default order below same.
      let past = First 0 in
      let a = slice_index_or os i past in
      let b = slice_index_or os j past in
      let within_j : j < length os = omega (arith, length-map os f) in
      let within_i : i < length os = omega arith in
      let read_i = get_or-map f os i past default within_i in
      let read_j = get_or-map f os j past default within_j in
      let equal : a ≡ b = same_origin first.marks second.marks once_first once_second apart a b (all_named i past within_i) (all_named j past within_j) (sym read_i ∙ same ∙ read_j) in
      let twice = once first.patch second.patch size can i j a (slice_get-get_or os i past within_i) (slice_get-get_or os j past within_j ∙ ap Some (sym equal)) in
      absurd (omega arith))

  pub IsWork-in_turn : OneOriginEach → IsNormal (merged first.patch second.patch size) → CanMerge first.patch second.patch size
      → All (λ (operation : Operation). IsText operation.insert) first.patch.ops → All (λ (operation : Operation). IsText operation.insert) second.patch.ops → IsWork (in_turn first second size)
  unfolding in_turn
  IsWork-in_turn one_each normal can firsts seconds = record {
    normal = normal;
    texts = texts-merged first.patch second.patch size can firsts seconds;
    counted = length-map (origins first.patch second.patch size) (mark_from first.marks second.marks) ∙ one_each first.patch second.patch size;
  }

-- the fields of two works in turn
pub in_turn_is : (first second : Marked) (size : ℕ) (patch : Patch) (sources : List Origin) (marks : List Mark) → patch ≡ merged first.patch second.patch size
    → sources ≡ origins first.patch second.patch size → marks ≡ map (mark_from first.marks second.marks) sources → record { patch = patch; marks = marks } ≡ in_turn first second size
unfolding in_turn
in_turn_is first second size patch sources marks is_patch is_sources is_marks =
    let with_marks : Patch → List Mark → Marked = λ p ms. record { patch = p; marks = ms } in
    ap (λ p. with_marks p marks) is_patch
    ∙ ap (with_marks (merged first.patch second.patch size)) (is_marks ∙ ap (map (mark_from first.marks second.marks)) is_sources)

-- what one edit types
pub length-marks_of : (stroke count : ℕ) → length (marks_of stroke count) ≡ count
length-marks_of stroke count = length-map-range_with_len (λ index. record { stroke = stroke; index = index }) 0 count

abbrev mark_at : ℕ → ℕ → Mark
mark_at stroke index = record { stroke = stroke; index = index }

read_mark : (stroke count i : ℕ) (default : Mark) → i < count → slice_index_or (marks_of stroke count) i default ≡ mark_at stroke i
read_mark stroke count i default below = get_or-map-range_with_len (mark_at stroke) 0 count i i default below (omega arith)

pub NoRepeat-marks_of : (stroke count : ℕ) → NoRepeat (marks_of stroke count)
NoRepeat-marks_of stroke count = from_places (marks_of stroke count) (λ i j default order below same.
    let within : j < count = omega (arith, length-marks_of stroke count) in
    let equal : mark_at stroke i ≡ mark_at stroke j = sym (read_mark stroke count i default (omega arith)) ∙ same ∙ read_mark stroke count j default within in
    let places : i ≡ j = ap (λ (m : Mark). m.index) equal in
    absurd (omega arith))

-- a new stroke has no mark of the others
pub NoneInBoth-fresh : (marks : List Mark) (stroke count : ℕ) → All (λ (mark : Mark). mark.stroke ≢ stroke) marks → NoneInBoth marks (marks_of stroke count)
NoneInBoth-fresh marks stroke count fresh mark (i, within, is) (j, below, there) =
    let under : j < count = omega (arith, length-marks_of stroke count) in
    let same : mark ≡ mark_at stroke j = sym there ∙ read_mark stroke count j mark under in
    let other = fresh i mark within in
    absurd (other (ap (λ (m : Mark). m.stroke) (is ∙ same)))

pub length-typed : (work : Marked) (operation : Operation) (stroke : ℕ) → length (typed work operation stroke).marks ≡ length (inserted (typed work operation stroke).patch)
length-typed work operation stroke = length-marks_of stroke (length operation.insert) ∙ ap length (sym (append-nil operation.insert))

-- the patch of one operation behind a work
pub typed_is : (work : Marked) (operation : Operation) (stroke : ℕ) (ops : List Operation) (before : Name) → ops ≡ operation ∷ [] → before ≡ work.patch.before
    → record { ops = ops; before = before } ≡ (typed work operation stroke).patch
typed_is work operation stroke ops before is_ops is_before =
    let patch_of : List Operation → Name → Patch = λ os name. record { ops = os; before = name } in
    ap (λ os. patch_of os before) is_ops ∙ ap (patch_of (operation ∷ [])) is_before

-- an operation that is allowed can be applied to the shown text
pub CanApply-typed : (work : Marked) (operation : Operation) (stroke : ℕ) (shown : List ℕ) → IsAllowed shown operation → CanApply (typed work operation stroke).patch shown
CanApply-typed work operation stroke shown allowed = record {
  ordered = λ index (earlier, later, before, follows, is_earlier, is_later, early). none_second index before earlier later follows is_earlier is_later;
  inside = λ index (other, is, late). allowed.inside (subst (λ (o : Operation). length shown < end_of o) (sym (only index other is)) late);
  whole = λ index (other, is, cut). allowed.whole (subst (λ (o : Operation). CutsPair shown o.offset ⊎ CutsPair shown (end_of o)) (sym (only index other is)) cut);
}
  where
    only_of : (operation : Operation) (index : ℕ) (other : Operation) → slice_get (operation ∷ []) index ≡ Some other → operation ≡ other
    only_of operation zero other is = cc
    only_of operation (suc index) other is = cc

    only : (index : ℕ) (other : Operation) → slice_get (operation ∷ []) index ≡ Some other → operation ≡ other
    only index other is = only_of operation index other is

    second_of : (operation : Operation) (index : ℕ) (other : Operation) → slice_get (operation ∷ []) (suc index) ≡ Some other → ⊥
    second_of operation index other is = cc

    none_second : (index before : ℕ) (earlier later : Operation) → index ≡ before + 1 → slice_get (operation ∷ []) before ≡ Some earlier → slice_get (operation ∷ []) index ≡ Some later → ⊥
    none_second index before earlier later follows is_earlier is_later =
        let behind : index ≡ suc before = omega arith in
        second_of operation before later (ap (slice_get (operation ∷ [])) (sym behind) ∙ is_later)

minus_zero : (n : ℕ) → n - 0 ≡ n
minus_zero n = omega arith

-- what the operation makes of the shown text
pub text_after-typed : (work : Marked) (operation : Operation) (stroke : ℕ) (shown : List ℕ) → text_after (typed work operation stroke).patch shown ≡ shown_after operation shown
text_after-typed work operation stroke shown =
    let start = take operation.offset shown in
    let end = drop (end_of operation) shown in
    text_after-copy (typed work operation stroke).patch shown
    ∙ ap (λ n. take n shown ++ (operation.insert ++ (take (length shown - end_of operation) end ++ []))) (minus_zero operation.offset)
    ∙ ap (λ us. start ++ (operation.insert ++ us)) (append-nil (take (length shown - end_of operation) end) ∙ take_all (length shown - end_of operation) end (omega (arith, length-drop (end_of operation) shown)))
    ∙ sym (append_assoc start operation.insert end)
