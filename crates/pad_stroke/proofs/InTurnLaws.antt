-- Two works in turn over rows.
use Rattle.std.proofs.Common.{◌≡◌, ℕ, zero, suc, ◌+◌, ◌<◌, ◌⊎◌, inl, inr, List, [], ◌∷◌, length, map, slice_index_or, refl, sym, ◌∙◌, ap, subst, arith}
use Rattle.std.specs.Prelude.{Some, None, Option, ◌↔◌, slice_get, Contains}
use Rattle.std.specs.Option.{option_map}
use Rattle.std.proofs.lemmas.List.{length-map, length-replicate, get_or-map}
use Rattle.std.proofs.lemmas.Option.{get_or_from_slice_get}
use Rattle.pad_patch.specs.declared.patch.Patch.{Patch}
use Rattle.pad_patch.specs.Piece.{patched, inserted, text_after}
use Rattle.pad_patch.specs.Misfit.{CanApply}
use Rattle.pad_patch.specs.Removed.{Removes, IsKeptFrom}
use Rattle.pad_patch.proofs.CallerLemmas.{Has, at_has, has_at, contains_has, has_contains, has_map, get-map, map-map, kept_element, kept_or_new}
use Rattle.pad_merge.specs.declared.origin.Origin.{Origin}
use Rattle.pad_merge.specs.declared.origin.Origin.TheVariants.{First, Second}
use Rattle.pad_merge.specs.Origin.{origins, named_in}
use Rattle.pad_merge.specs.Merge.{merged, CanMerge}
use Rattle.pad_merge.proofs.CallerLemmas.{length-origins, patched-merged, removes_merged, merged_removes, first_stands}
use Rattle.pad_stroke.specs.declared.mark.Mark.{Mark}
use Rattle.pad_stroke.specs.Row.{Row, no_marks, row_after, shown_row, IsRemovedFrom}
use Rattle.pad_stroke.specs.InTurn.{no_mark, mark_from, in_turn}
use Rattle.pad_stroke.specs.Work.{Marked}

pub in_turn_patch : (first second : Marked) (size : ℕ) → (in_turn first second size).patch ≡ merged first.patch second.patch size
unfolding in_turn
in_turn_patch first second size = refl

pub in_turn_marks : (first second : Marked) (size : ℕ) → (in_turn first second size).marks ≡ map (mark_from first.marks second.marks) (origins first.patch second.patch size)
unfolding in_turn
in_turn_marks first second size = refl

pub in_turn_counted : (first second : Marked) (size : ℕ) → length (in_turn first second size).marks ≡ length (inserted (in_turn first second size).patch)
unfolding in_turn
in_turn_counted first second size = length-map (origins first.patch second.patch size) (mark_from first.marks second.marks) ∙ length-origins first.patch second.patch size

-- entries of marks, read off origins
read_some : (xs : List Mark) (place : ℕ) → slice_index_or (map Some xs) place (Some no_mark) ≡ Some (slice_index_or xs place no_mark)
read_some [] place = refl
read_some (x ∷ xs) zero = refl
read_some (x ∷ xs) (suc place) = read_some xs place

entry_of : (first second : List Mark) (origin : Origin) → Some (mark_from first second origin) ≡ named_in (Some no_mark) (map Some first) (map Some second) origin
entry_of first second (First place) = sym (read_some first place)
entry_of first second (Second place) = sym (read_some second place)

entries_of : (first second : List Mark) (found : List Origin) → map Some (map (mark_from first second) found) ≡ map (named_in (Some no_mark) (map Some first) (map Some second)) found
entries_of first second [] = refl
entries_of first second (origin ∷ found) =
    ap (λ e. e ∷ map Some (map (mark_from first second) found)) (entry_of first second origin)
    ∙ ap (λ es. named_in (Some no_mark) (map Some first) (map Some second) origin ∷ es) (entries_of first second found)

-- the row after two works in turn is the row after one and then the other
pub in_turn_row : (first second : Marked) (row : Row) → CanMerge first.patch second.patch (length row) → length first.marks ≡ length (inserted first.patch) → length second.marks ≡ length (inserted second.patch)
    → shown_row (in_turn first second (length row)) row ≡ shown_row second (shown_row first row)
unfolding in_turn
in_turn_row first second row can counted_first counted_second =
    let size = length row in
    let found = origins first.patch second.patch size in
    ap (λ es. patched (merged first.patch second.patch size) es row) (entries_of first.marks second.marks found)
    ∙ patched-merged (Some no_mark) first.patch second.patch (map Some first.marks) (map Some second.marks) row can
    (length-map first.marks Some ∙ counted_first) (length-map second.marks Some ∙ counted_second)

-- a mark of the first work stays, or the second one removes its unit
pub in_turn_first : (first second : Marked) (row : Row) (mark : Mark) → CanMerge first.patch second.patch (length row) → length first.marks ≡ length (inserted first.patch) → Contains first.marks mark
    → Contains (in_turn first second (length row)).marks mark ⊎ IsRemovedFrom second.patch (shown_row first row) mark
unfolding in_turn
in_turn_first first second row mark can counted contains =
    let size = length row in
    let place = has_at mark first.marks (contains_has mark first.marks contains) in
    let entry = get-map Some first.marks place.0 ∙ ap (option_map Some) place.1 in
    elim (first_stands first.patch second.patch (map Some first.marks) row place.0 (Some mark) can (length-map first.marks Some ∙ counted) entry) [
      | inl stays ↦
          let found = origins first.patch second.patch size in
          let there = has_map (mark_from first.marks second.marks) (First place.0) found (at_has (First place.0) found stays.0 stays.1) in
          let read : slice_index_or first.marks place.0 no_mark ≡ mark = get_or_from_slice_get first.marks place.0 mark no_mark place.1 in
          inl (has_contains mark (map (mark_from first.marks second.marks) found) (subst (λ m. Has m (map (mark_from first.marks second.marks) found)) read there))
      | inr removed ↦ inr (removed.0, removed.1, removed.2)
    ]

-- what works in turn remove of a row
pub in_turn_removes : (first second : Marked) (row : Row) (mark : Mark) → CanMerge first.patch second.patch (length row) → length first.marks ≡ length (inserted first.patch)
    → IsRemovedFrom (in_turn first second (length row)).patch row mark → IsRemovedFrom first.patch row mark ⊎ IsRemovedFrom second.patch (shown_row first row) mark
unfolding in_turn
in_turn_removes first second row mark can counted (place, removes, is) =
    elim (removes_merged first.patch second.patch (length row) place can removes) [
      | inl by_first ↦ inl (place, by_first, is)
      | inr by_second ↦
          inr (by_second.0, by_second.2, kept_element first.patch (map Some first.marks) row place by_second.0 (Some mark) (length-map first.marks Some ∙ counted) by_second.1 is)
    ]

no_mark_there : (count index : ℕ) (mark : Mark) → slice_get (no_marks count) index ≡ Some (Some mark) → ⊥
no_mark_there zero index mark is = cc
no_mark_there (suc count) zero mark is = let never : None ≡ Some mark = cc in cc
no_mark_there (suc count) (suc index) mark is = no_mark_there count index mark is

-- they remove just what the first one removes, and what the second one removes of the rest
pub in_turn_removes_just : (first second : Marked) (row : Row) (mark : Mark) → CanMerge first.patch second.patch (length row)
    → IsRemovedFrom (in_turn first second (length row)).patch row mark
    ↔ (IsRemovedFrom first.patch row mark ⊎ IsRemovedFrom second.patch (row_after first.patch (no_marks (length (inserted first.patch))) row) mark)
unfolding in_turn
in_turn_removes_just first second row mark can =
    let size = length row in
    let nothing = no_marks (length (inserted first.patch)) in
    let counted : length nothing ≡ length (inserted first.patch) = length-replicate (length (inserted first.patch)) None in (
      λ (place, removes, is). elim ((merged_removes first.patch second.patch size place can).0 removes) [
        | inl by_first ↦ inl (place, by_first, is)
        | inr by_second ↦ inr (by_second.0, by_second.2, kept_element first.patch nothing row place by_second.0 (Some mark) counted by_second.1 is)
      ],
      λ removed. elim removed [
        | inl (place, by_first, is) ↦ (place, (merged_removes first.patch second.patch size place can).1 (inl by_first), is)
        | inr (at, by_second, is) ↦ elim (kept_or_new first.patch nothing row at (Some mark) counted is) [
          | inl found ↦ (found.0, (merged_removes first.patch second.patch size found.0 can).1 (inr (at, found.1, by_second)), found.2)
          | inr none ↦ absurd (no_mark_there (length (inserted first.patch)) none.0 mark none.1)
        ]
      ],
    )
