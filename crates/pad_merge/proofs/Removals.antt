-- What a merge removes and leaves out.
use Rattle.std.proofs.Common.{◌≡◌, ℕ, zero, suc, ◌+◌, ◌<◌, ◌≤◌, ◌⊎◌, inl, inr, None, Some, List, [], ◌∷◌, length, map, replicate, refl, sym, ◌∙◌, ap, subst, arith}
use Rattle.std.specs.Prelude.{Option, slice_get}
use Rattle.std.specs.List.{filter_map, range_with_len}
use Rattle.std.specs.Option.{option_map}
use Rattle.std.proofs.lemmas.List.{length-map, length-replicate}
use Rattle.std.proofs.lemmas.List.FromFn.{length-map-range_with_len}
use Rattle.std.proofs.lemmas.Bool.{cases_lt}
use Rattle.pad_patch.specs.declared.operation.Operation.{Operation}
use Rattle.pad_patch.specs.declared.patch.Patch.{Patch}
use Rattle.pad_patch.specs.Piece.{end_of, patched, inserted, length_after}
use Rattle.pad_patch.specs.Misfit.{EndsAfter}
use Rattle.pad_patch.specs.Removed.{Removes, IsKeptFrom, old_places}
use Rattle.pad_patch.proofs.CallerLemmas.{somes_of, get-map, at_has, has_at, has_somes, removed_or_kept, kept_not_removed, kept_element, element_kept, kept_or_new, kept_once, length-patched, IsLaid, laid, inside_of, inside_laid, get-range, below_get, get_below, new_drawn, patched-drawn, read_drawn, drawn}
use Rattle.pad_merge.specs.declared.origin.Origin.{Origin}
use Rattle.pad_merge.specs.declared.origin.Origin.TheVariants.{First, Second}
use Rattle.pad_merge.specs.Origin.{numbered, origins_after, origins}
use Rattle.pad_merge.specs.Merge.{merged, CanMerge}
use Rattle.pad_merge.specs.Laws.{MergedRemoves}
use Rattle.pad_merge.proofs.Both.{laid-merged}
use Rattle.pad_merge.proofs.Labels.{old_places-merged}

-- the length of the old places after a patch
length-old_places : (patch : Patch) (size : ℕ) → ((index : ℕ) → ¬ (EndsAfter patch size index)) → length (old_places patch size) ≡ length_after patch size
length-old_places patch size inside =
    let old : List (Option ℕ) = map Some (range_with_len 0 size) in
    let long : length old ≡ size = length-map-range_with_len {X = Option ℕ} Some 0 size in
    length-patched patch (replicate (length (inserted patch)) None) old (length-replicate (length (inserted patch)) None) (subst (λ n. (index : ℕ) → ¬ (EndsAfter patch n index)) (sym long) inside)
    ∙ ap (length_after patch) long

ends_within : (patch : Patch) (size index : ℕ) (operation : Operation) → IsLaid 0 size patch.ops → slice_get patch.ops index ≡ Some operation → end_of operation ≤ size
ends_within patch size index operation laid_out is = inside_of patch size (inside_laid patch size laid_out) index operation is

pub removes_merged : (first second : Patch) (size place : ℕ) → CanMerge first second size
    → Removes (merged first second size) place → Removes first place ⊎ ((at : ℕ) × IsKeptFrom first size place at × Removes second at)
removes_merged first second size place can (index, operation, is, from, below) =
    let both = merged first second size in
    let laid_both = laid-merged first second size can in
    let inside : end_of operation ≤ size = ends_within both size index operation laid_both is in
    elim (removed_or_kept first size place (laid first size can.first_ordered can.first_inside) (omega (arith, below, inside))) [
      | inl removed ↦ inl removed
      | inr kept ↦
          let middle = old_places first size in
          let long = length-old_places first size can.first_inside in
          let there = below_get (Some place) middle kept.0 kept.1 in
          elim (removed_or_kept second (length_after first size) kept.0 (laid second (length_after first size) can.second_ordered can.second_inside) (omega (arith, there, long))) [
            | inl removed ↦ inr (kept.0, kept.1, removed)
            | inr after ↦
                let nones : List (Option ℕ) = replicate (length (inserted second)) None in
                let stands : slice_get (patched second nones middle) after.0 ≡ Some (Some place) =
                kept_element second nones middle kept.0 after.0 (Some place) (length-replicate (length (inserted second)) None) (subst (λ n. IsKeptFrom second n kept.0 after.0) (sym long) after.1) kept.1 in
                absurd (kept_not_removed both size place after.0 laid_both (ap (λ xs. slice_get xs after.0) (old_places-merged first second size can) ∙ stands) (index, operation, is, from, below))
          ]
    ]

-- a kept unit is one of the text
kept_within : (patch : Patch) (size place at : ℕ) → IsKeptFrom patch size place at → place < size
kept_within patch size place at kept =
    let old : List (Option ℕ) = map Some (range_with_len 0 size) in
    let long : length old ≡ size = length-map-range_with_len {X = Option ℕ} Some 0 size in
    let there = element_kept patch (replicate (length (inserted patch)) None) old place at (Some place) (length-replicate (length (inserted patch)) None) (subst (λ n. IsKeptFrom patch n place at) (sym long) kept) kept in
    omega (arith, below_get (Some place) old place there, long)

no_place : (count index place : ℕ) → slice_get (replicate {A = Option ℕ} count None) index ≡ Some (Some place) → ⊥
no_place zero index place is = cc
no_place (suc count) zero place is = let never : None ≡ Some place = cc in cc
no_place (suc count) (suc index) place is = no_place count index place is

-- a unit that the merge keeps both patches keep
kept_by_both : (first second : Patch) (size place after : ℕ) → CanMerge first second size → IsKeptFrom (merged first second size) size place after
    → (at : ℕ) × IsKeptFrom first size place at × IsKeptFrom second (length_after first size) at after
kept_by_both first second size place after can kept =
    let middle = old_places first size in
    let nones : List (Option ℕ) = replicate (length (inserted second)) None in
    let long = length-old_places first size can.first_inside in
    elim (kept_or_new second nones middle after (Some place) (length-replicate (length (inserted second)) None) (sym (ap (λ xs. slice_get xs after) (old_places-merged first second size can)) ∙ kept)) [
      | inl found ↦ (found.0, found.2, subst (λ n. IsKeptFrom second n found.0 after) long found.1)
      | inr none ↦ absurd (no_place (length (inserted second)) none.0 place none.1)
    ]

removed_by_merge : (first second : Patch) (size place : ℕ) → CanMerge first second size → place < size
    → ((after : ℕ) → IsKeptFrom (merged first second size) size place after → ⊥) → Removes (merged first second size) place
removed_by_merge first second size place can below never = elim (removed_or_kept (merged first second size) size place (laid-merged first second size can) below) [
  | inl removed ↦ removed
  | inr kept ↦ absurd (never kept.0 kept.1)
]

-- and it removes all that one of them removes
pub merged_removes : MergedRemoves
merged_removes first second size place can = (
  removes_merged first second size place can,
  λ removed. elim removed [
    | inl (index, operation, is, from, below) ↦
        let laid_first = laid first size can.first_ordered can.first_inside in
        removed_by_merge first second size place can (omega (arith, below, ends_within first size index operation laid_first is))
        (λ after kept. kept_not_removed first size place (kept_by_both first second size place after can kept).0 laid_first (kept_by_both first second size place after can kept).1 (index, operation, is, from, below))
    | inr (at, kept, removed_later) ↦
        removed_by_merge first second size place can (kept_within first size place at kept)
        (λ after kept_after.
        let found = kept_by_both first second size place after can kept_after in
        let same = kept_once first size place found.0 at can.first_ordered can.first_inside found.1 kept in
        kept_not_removed second (length_after first size) at after (laid second (length_after first size) can.second_ordered can.second_inside)
        (subst (λ n. IsKeptFrom second (length_after first size) n after) same found.2) removed_later)
  ],
)

-- the units that the first patch inserts, as they stand after it
first_place : (first : Patch) (size place : ℕ) → place < length (inserted first) → ((index : ℕ) → ¬ (EndsAfter first size index))
    → (at : ℕ) × (at < length_after first size) × (slice_get (drawn first size) at ≡ Some (inr place))
first_place first size place below inside =
    let found = new_drawn first size place below in
    let long = length-map-range_with_len {X = ℕ ⊎ ℕ} inl 0 size in
    let news : List (ℕ ⊎ ℕ) = map inr (range_with_len 0 (length (inserted first))) in
    let olds : List (ℕ ⊎ ℕ) = map inl (range_with_len 0 size) in
    let size_of = length-patched first news olds (length-map-range_with_len {X = ℕ ⊎ ℕ} inr 0 (length (inserted first))) (subst (λ n. (index : ℕ) → ¬ (EndsAfter first n index)) (sym long) inside)
    ∙ ap (length_after first) long in
    (found.0, omega (arith, below_get (inr place) (drawn first size) found.0 found.1, size_of), found.1)

-- what a copied list has at a place of a new unit
new_element : {A : Type 0} (patch : Patch) (new old : List A) (place at : ℕ) (element : A) → length new ≡ length (inserted patch) → slice_get (drawn patch (length old)) at ≡ Some (inr place) → slice_get new place ≡ Some element
    → slice_get (patched patch new old) at ≡ Some element
new_element patch new old place at element counted from is =
    there_some (slice_get (patched patch new old) at) (slice_get new place) element
    (sym (get-map Some (patched patch new old) at) ∙ ap (λ xs. slice_get xs at) (patched-drawn patch new old counted) ∙ get-map (read_drawn new old) (drawn patch (length old)) at ∙ ap (option_map (read_drawn new old)) from)
    is
  where
    there_some : {B : Type 0} (o : Option B) (e : Option B) (x : B) → option_map Some o ≡ Some e → e ≡ Some x → o ≡ Some x
    there_some None e x is same = cc
    there_some (Some y) e x is same = cc

pub first_stands : {A : Type 0} (first second : Patch) (of_first old : List A) (place : ℕ) (element : A) → CanMerge first second (length old) → length of_first ≡ length (inserted first) → slice_get of_first place ≡ Some element
    → ((index : ℕ) × (slice_get (origins first second (length old)) index ≡ Some (First place))) ⊎ ((at : ℕ) × Removes second at × (slice_get (patched first of_first old) at ≡ Some element))
unfolding origins
first_stands first second of_first old place element can counted is =
    let size = length old in
    let within = below_get element of_first place is in
    let here = first_place first size place (omega (arith, within, counted)) can.first_inside in
    let before : List (Option Origin) = replicate size None in
    let long : length before ≡ size = length-replicate size None in
    let firsts : List (Option Origin) = numbered First 0 (length (inserted first)) in
    let middle = origins_after First first before in
    let seconds : List (Option Origin) = numbered Second 0 (length (inserted second)) in
    let count_first : length firsts ≡ length (inserted first) = length-map-range_with_len {X = Option Origin} (λ at. Some (First at)) 0 (length (inserted first)) in
    let count_second : length seconds ≡ length (inserted second) = length-map-range_with_len {X = Option Origin} (λ at. Some (Second at)) 0 (length (inserted second)) in
    let number : slice_get firsts place ≡ Some (Some (First place)) =
    get-map (λ at. Some (First at)) (range_with_len 0 (length (inserted first))) place
    ∙ ap (option_map (λ at. Some (First at))) (get-range 0 (length (inserted first)) place (omega (arith, within, counted))) ∙ ap (λ n. Some (Some (First n))) (omega arith) in
    let stands : slice_get middle here.0 ≡ Some (Some (First place)) =
    new_element first firsts before place here.0 (Some (First place)) count_first (subst (λ n. slice_get (drawn first n) here.0 ≡ Some (inr place)) (sym long) here.2) number in
    let size_middle : length middle ≡ length_after first size =
    length-patched first firsts before count_first (subst (λ n. (index : ℕ) → ¬ (EndsAfter first n index)) (sym long) can.first_inside) ∙ ap (length_after first) long in
    elim (removed_or_kept second (length_after first size) here.0 (laid second (length_after first size) can.second_ordered can.second_inside) here.1) [
      | inl removed ↦ inr (here.0, removed, new_element first of_first old place here.0 element counted here.2 is)
      | inr kept ↦
          let last : slice_get (patched second seconds middle) kept.0 ≡ Some (Some (First place)) =
          kept_element second seconds middle here.0 kept.0 (Some (First place)) count_second (subst (λ n. IsKeptFrom second n here.0 kept.0) (sym size_middle) kept.1) stands in
          inl (has_at (First place) (somes_of (patched second seconds middle)) (has_somes (First place) (patched second seconds middle) (at_has (Some (First place)) (patched second seconds middle) kept.0 last)))
    ]
