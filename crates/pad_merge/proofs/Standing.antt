-- The unit at a place of the text after a patch.
use Rattle.std.proofs.Common.{◌≡◌, ℕ, zero, suc, ◌+◌, ◌-◌, ◌<◌, ◌≤◌, ◌⊎◌, inl, inr, List, [], ◌∷◌, ◌++◌, length, map, take, drop, refl, sym, ◌∙◌, ap, subst, arith}
use Rattle.std.specs.Prelude.{Option, Some, None, Bool, true, false, All, ◌↔◌, slice_get, slice_index_or, is_some}
use Rattle.std.specs.List.{flat_map}
use Rattle.std.specs.Option.{option_map}
use Rattle.std.proofs.lemmas.List.{append-nil, length-map}
use Rattle.std.proofs.lemmas.Bool.{cases_lt}
use Rattle.std.proofs.lemmas.Option.{slice_get-get_or, get_or_from_slice_get}
use Rattle.pad_patch.specs.Misfit.{HasOperation, IsLeast, Overlaps, EndsAfter}
use Rattle.pad_patch.specs.declared.operation.Operation.{Operation}
use Rattle.pad_patch.specs.declared.patch.Patch.{Patch}
use Rattle.pad_patch.specs.Piece.{end_of, pieces_from, length_after}
use Rattle.pad_patch.proofs.CallerLemmas.{get-map, get_below, below_get}
use Rattle.pad_merge.specs.UnitSource.{UnitSource, kept_at, new_unit, kept_from, sources_of}
use Rattle.pad_merge.specs.Inside.Meeting.{new_of, MeetsFirst}
use Rattle.pad_merge.specs.Merge.{CanMerge, IsTurned, AreTurned}
use Rattle.pad_merge.proofs.Both.{length-sources_of}
use Rattle.pad_merge.proofs.Sources.{sources_of_piece, sources-pieces, length-kept_from}
use Rattle.pad_merge.proofs.Readback.{copy_of, range_kept}

pub get_first : {A : Type 0} (xs ys : List A) (at : ℕ) → at < length xs → slice_get (xs ++ ys) at ≡ slice_get xs at
get_first [] ys at below = absurd (omega (arith, below))
get_first (x ∷ xs) ys zero below = refl
get_first (x ∷ xs) ys (suc at) below = get_first xs ys at (omega (arith, below))

pub get_second : {A : Type 0} (xs ys : List A) (at : ℕ) → length xs ≤ at → slice_get (xs ++ ys) at ≡ slice_get ys (at - length xs)
get_second [] ys at past = let same : at ≡ at - 0 = omega arith in ap (slice_get ys) same
get_second (x ∷ xs) ys zero past = absurd (omega (arith, past))
get_second (x ∷ xs) ys (suc at) past =
    let same : at - length xs ≡ suc at - suc (length xs) = omega arith in
    get_second xs ys at (omega (arith, past)) ∙ ap (slice_get ys) same

get_kept : (place count at : ℕ) → at < count → slice_get (kept_from place count) at ≡ Some (kept_at (place + at))
get_kept place zero at below = absurd (omega (arith, below))
get_kept place (suc count) zero below = let same : place ≡ place + 0 = omega arith in ap (λ n. Some (kept_at n)) same
get_kept place (suc count) (suc at) below =
    let same : suc place + at ≡ place + suc at = omega arith in
    get_kept (suc place) count at (omega (arith, below)) ∙ ap (λ n. Some (kept_at n)) same

-- the unit at a place of the rest of the copy
abbrev pub shown_at : ℕ → ℕ → List Operation → ℕ → Option (Option ℕ)
shown_at size place operations at = option_map new_of (slice_get (copy_of size place operations) at)

module _ (size place : ℕ) (operation : Operation) (operations : List Operation) (starts : place ≤ operation.offset) (inside : end_of operation ≤ size) where
  kept : take (operation.offset - place) (drop place (kept_from 0 size)) ≡ kept_from place (operation.offset - place)
  kept = range_kept place (operation.offset - place) size (omega (arith, starts, inside))

  split : copy_of size place (operation ∷ operations) ≡ kept_from place (operation.offset - place) ++ (map new_unit operation.insert ++ copy_of size (end_of operation) operations)
  split = ap (λ xs. xs ++ (map new_unit operation.insert ++ copy_of size (end_of operation) operations)) kept

  pub at_kept : (at : ℕ) → at < operation.offset - place → shown_at size place (operation ∷ operations) at ≡ Some None
  at_kept at below =
      let xs = kept_from place (operation.offset - place) in
      ap (λ us. option_map new_of (slice_get us at)) split
      ∙ ap (option_map new_of) (get_first xs (map new_unit operation.insert ++ copy_of size (end_of operation) operations) at (omega (arith, below, length-kept_from place (operation.offset - place)))
      ∙ get_kept place (operation.offset - place) at below)

  past_kept : (at : ℕ) → operation.offset - place ≤ at
      → slice_get (copy_of size place (operation ∷ operations)) at ≡ slice_get (map new_unit operation.insert ++ copy_of size (end_of operation) operations) (at - (operation.offset - place))
  past_kept at past =
      let xs = kept_from place (operation.offset - place) in
      let ys = map new_unit operation.insert ++ copy_of size (end_of operation) operations in
      ap (λ us. slice_get us at) split ∙ get_second xs ys at (omega (arith, past, length-kept_from place (operation.offset - place)))
      ∙ ap (λ n. slice_get ys (at - n)) (length-kept_from place (operation.offset - place))

  pub at_new : (at left unit : ℕ) → operation.offset - place ≤ at → left ≡ at - (operation.offset - place) → slice_get operation.insert left ≡ Some unit → left < length operation.insert
      → shown_at size place (operation ∷ operations) at ≡ Some (Some unit)
  at_new at left unit past is stands below =
      let news = map new_unit operation.insert in
      ap (option_map new_of)
      (past_kept at past ∙ ap (slice_get (news ++ copy_of size (end_of operation) operations)) (sym is)
      ∙ get_first news (copy_of size (end_of operation) operations) left (omega (arith, below, length-map operation.insert new_unit))
      ∙ get-map new_unit operation.insert left ∙ ap (option_map new_unit) stands)

  pub at_rest : (at left : ℕ) → operation.offset - place ≤ at → left ≡ at - (operation.offset - place) → length operation.insert ≤ left
      → shown_at size place (operation ∷ operations) at ≡ shown_at size (end_of operation) operations (left - length operation.insert)
  at_rest at left past is more =
      let news = map new_unit operation.insert in
      let rest = copy_of size (end_of operation) operations in
      ap (option_map new_of)
      (past_kept at past ∙ ap (slice_get (news ++ rest)) (sym is)
      ∙ get_second news rest left (omega (arith, more, length-map operation.insert new_unit))
      ∙ ap (λ n. slice_get rest (left - n)) (length-map operation.insert new_unit))

-- after the last operation
last_copy : (size place : ℕ) → place ≤ size → copy_of size place [] ≡ kept_from place (size - place)
last_copy size place within = append-nil (take (size - place) (drop place (kept_from 0 size))) ∙ range_kept place (size - place) size (omega (arith, within))

pub at_end : (size place at : ℕ) → place ≤ size → at < size - place → shown_at size place [] at ≡ Some None
at_end size place at within below = ap (λ us. option_map new_of (slice_get us at)) (last_copy size place within) ∙ ap (option_map new_of) (get_kept place (size - place) at below)

get_past : {A : Type 0} (xs : List A) (at : ℕ) → length xs ≤ at → slice_get xs at ≡ None
get_past [] at past = refl
get_past (x ∷ xs) zero past = absurd (omega (arith, past))
get_past (x ∷ xs) (suc at) past = get_past xs at (omega (arith, past))

pub past_end : (size place at : ℕ) → place ≤ size → size - place ≤ at → shown_at size place [] at ≡ None
past_end size place at within past =
    ap (λ us. option_map new_of (slice_get us at)) (last_copy size place within)
    ∙ ap (option_map new_of) (get_past (kept_from place (size - place)) at (omega (arith, past, length-kept_from place (size - place))))

-- the whole copy
pub shown_whole : (patch : Patch) (size at : ℕ) → option_map new_of (slice_get (sources_of patch size) at) ≡ shown_at size 0 patch.ops at
shown_whole patch size at =
    ap (λ us. option_map new_of (slice_get us at)) (sources-pieces patch (kept_from 0 size) ∙ ap (λ n. flat_map (sources_of_piece (kept_from 0 size)) (pieces_from 0 n patch.ops)) (length-kept_from 0 size))

-- where nothing is found nothing is there, and what is found is there
pub none_found : (P : ℕ → Type 0) (found : Option ℕ) → IsLeast P found → is_some found ≡ false → (index : ℕ) → ¬ (P index)
none_found P None least is = least
none_found P (Some index) least is = cc

pub some_found : (P : ℕ → Type 0) (found : Option ℕ) → IsLeast P found → is_some found ≡ true → (index : ℕ) × P index
some_found P None least is = cc
some_found P (Some index) least is = (index, least.0)

-- each operation of the second patch meets the first one, if they can be merged
pub meets_all : (first second : Patch) (size : ℕ) → CanMerge first second size → All (MeetsFirst first size) second.ops
meets_all first second size can k d below =
    let operation = slice_index_or second.ops k d in
    let is : slice_get second.ops k ≡ Some operation = slice_get-get_or second.ops k d below in
    record {
      inside = not_below (length_after first size) (end_of operation) (λ past. can.second_inside k (operation, is, past));
      starts_whole = can.starts_whole k operation is;
      ends_whole = can.ends_whole k operation is;
    }
  where
    not_below : (a b : ℕ) → ¬ (a < b) → b ≤ a
    not_below a b never = elim (cases_lt a b) [ inl below ↦ absurd (never below) | inr rest ↦ rest ]

pub of_meeting : (first second : Patch) (size : ℕ) → ((index : ℕ) → ¬ (Overlaps first index)) → ((index : ℕ) → ¬ (EndsAfter first size index)) → ((index : ℕ) → ¬ (Overlaps second index))
    → All (MeetsFirst first size) second.ops → CanMerge first second size
of_meeting first second size ordered inside second_ordered all =
    let meets : (index : ℕ) (operation : Operation) → HasOperation second index operation → MeetsFirst first size operation = λ index operation is.
    subst (MeetsFirst first size) (get_or_from_slice_get second.ops index operation operation is) (all index operation (below_get operation second.ops index is)) in
    record {
      first_ordered = ordered;
      first_inside = inside;
      second_ordered = second_ordered;
      second_inside = λ index (operation, is, past). omega (arith, past, (meets index operation is).inside);
      starts_whole = λ index operation is. (meets index operation is).starts_whole;
      ends_whole = λ index operation is. (meets index operation is).ends_whole;
    }

-- a unit stands at a place of the copy exactly if the place is within it
pub stands_within : (patch : Patch) (size place at : ℕ) → ((index : ℕ) → ¬ (EndsAfter patch size index)) → at ≡ place + 1 → (is_some (option_map new_of (slice_get (sources_of patch size) place)) ≡ true) ↔ (at ≤ length_after patch size)
stands_within patch size place at inside next = (
  λ is. omega (arith, there (slice_get (sources_of patch size) place) refl is, length-sources_of patch size inside, next),
  λ within.
      let found = get_below (sources_of patch size) place (omega (arith, length-sources_of patch size inside, next, within)) in
      ap (λ o. is_some (option_map new_of o)) found.1,
)
  where
    there : (o : Option UnitSource) → slice_get (sources_of patch size) place ≡ o → is_some (option_map new_of o) ≡ true → place < length (sources_of patch size)
    there None same is = cc
    there (Some source) same is = below_get source (sources_of patch size) place same

-- the next operation is turned, and so all are if the later ones are
pub turned_next : (inserted removed : ℕ) (operation back : Operation) (operations backs : List Operation) (whole : Type 0) → IsTurned inserted removed operation back
    → AreTurned inserted removed (operation ∷ operations) (back ∷ backs) ↔ whole → AreTurned (inserted + length operation.insert) (removed + operation.remove) operations backs ↔ whole
turned_next inserted removed operation back operations backs whole is all = (λ later. all.0 (is, later), λ holds. (all.1 holds).1)
