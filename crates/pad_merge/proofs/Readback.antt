-- The operations of a patch in normal form are read back off its sources.
use Rattle.std.proofs.Common.{◌≡◌, ℕ, zero, suc, ◌+◌, ◌-◌, ◌<◌, ◌≤◌, ◌⊎◌, inl, inr, List, [], ◌∷◌, ◌++◌, length, map, take, drop, refl, sym, ◌∙◌, ap, arith, append_assoc, add-one}
use Rattle.std.specs.Prelude.{Some, slice_get}
use Rattle.std.specs.List.{flat_map}
use Rattle.std.proofs.lemmas.List.{append-nil, take_all}
use Rattle.std.proofs.lemmas.Bool.{cases_lt}
use Rattle.pad_patch.specs.declared.operation.Operation.{Operation}
use Rattle.pad_patch.specs.declared.patch.Patch.{Patch}
use Rattle.pad_patch.specs.Piece.{end_of, pieces_from}
use Rattle.pad_patch.specs.Misfit.{EndsAfter}
use Rattle.pad_patch.proofs.CallerLemmas.{Inside, StartsFrom, inside_of}
use Rattle.pad_patch.proofs.CallerLemmas.{same_operation}
use Rattle.pad_merge.specs.UnitSource.{UnitSource, kept_at, new_unit, kept_from, sources_of, sources_after}
use Rattle.pad_merge.specs.Merge.{gap, operations_between, merged, IsNormal}
use Rattle.pad_merge.proofs.Sources.{sources_of_piece, sources-pieces, length-kept_from}
use Rattle.pad_merge.proofs.Reading.{IsSpaced, none, one, gap_cases, replacing}

pub gap-none : (place : ℕ) → gap place place [] ≡ []
gap-none place = elim (gap_cases place place []) [
  | none same nothing is ↦ is
  | one (inl other) is ↦ absurd (other refl)
  | one (inr some) is ↦ absurd (omega arith)
]

-- kept units in a row are one range
pub read_row : (place size from count : ℕ) (inserted : List ℕ) (rest : List UnitSource)
    → operations_between place inserted size (kept_from from (suc count) ++ rest) ≡ gap place from inserted ++ operations_between (from + suc count) [] size rest
read_row place size from zero inserted rest =
    ap (λ n. gap place from inserted ++ operations_between n [] size rest) (sym (add-one from))
read_row place size from (suc count) inserted rest =
    let there : suc from + suc count ≡ from + suc (suc count) = omega arith in
    ap (λ os. gap place from inserted ++ os) (read_row (suc from) size (suc from) count [] rest
    ∙ ap (λ os. os ++ operations_between (suc from + suc count) [] size rest) (gap-none (suc from))
    ∙ ap (λ n. operations_between n [] size rest) there)

-- new units in a row are inserted together
read_units : (place size : ℕ) (inserted units : List ℕ) (rest : List UnitSource)
    → operations_between place inserted size (map new_unit units ++ rest) ≡ operations_between place (inserted ++ units) size rest
read_units place size inserted [] rest = ap (λ us. operations_between place us size rest) (sym (append-nil inserted))
read_units place size inserted (unit ∷ units) rest =
    read_units place size (inserted ++ unit ∷ []) units rest
    ∙ ap (λ us. operations_between place us size rest) (append_assoc inserted (unit ∷ []) units)

-- a range of kept units
take_kept : (place count size : ℕ) → count ≤ size → take count (kept_from place size) ≡ kept_from place count
take_kept place zero size within = refl
take_kept place (suc count) zero within = absurd (omega arith)
take_kept place (suc count) (suc size) within = ap (λ xs. kept_at place ∷ xs) (take_kept (suc place) count size (omega arith))

drop_kept : (place from size : ℕ) → from ≤ size → drop from (kept_from place size) ≡ kept_from (place + from) (size - from)
drop_kept place zero size within =
    ap (kept_from place) (minus_zero size) ∙ ap (λ n. kept_from n (size - 0)) (plus_zero place)
  where
    minus_zero : (n : ℕ) → n ≡ n - 0
    minus_zero n = omega arith

    plus_zero : (n : ℕ) → n ≡ n + 0
    plus_zero n = omega arith
drop_kept place (suc from) zero within = absurd (omega arith)
drop_kept place (suc from) (suc size) within =
    let there : suc place + from ≡ place + suc from = omega arith in
    let left : size - from ≡ suc size - suc from = omega arith in
    drop_kept (suc place) from size (omega arith) ∙ ap (λ n. kept_from n (size - from)) there ∙ ap (kept_from (place + suc from)) left

pub range_kept : (from count size : ℕ) → from + count ≤ size → take count (drop from (kept_from 0 size)) ≡ kept_from from count
range_kept from count size within =
    let start : 0 + from ≡ from = omega arith in
    ap (take count) (drop_kept 0 from size (omega arith) ∙ ap (λ n. kept_from n (size - from)) start)
    ∙ take_kept from count (size - from) (omega arith)

-- the sources of the copy from a place on
abbrev pub copy_of : ℕ → ℕ → List Operation → List UnitSource
copy_of size place operations = flat_map (sources_of_piece (kept_from 0 size)) (pieces_from place size operations)

-- the gap of an operation that is not empty is the operation
gap-operation : (operation : Operation) → (0 < operation.remove) ⊎ (0 < length operation.insert) → gap operation.offset (end_of operation) operation.insert ≡ operation ∷ []
gap-operation operation needed =
    let size : end_of operation - operation.offset ≡ operation.remove = omega arith in
    elim (gap_cases operation.offset (end_of operation) operation.insert) [
      | none same nothing is ↦ elim needed [
        | inl removes ↦ absurd (omega arith)
        | inr inserts ↦ let empty : length operation.insert ≡ 0 = ap length nothing in absurd (omega arith)
      ]
      | one some is ↦ is ∙ ap (λ o. o ∷ []) (same_operation (replacing operation.offset (end_of operation) operation.insert) operation refl size refl)
    ]

-- the operations are read back from a place on, behind a gap
read_back : (size place from : ℕ) (inserted : List ℕ) (operations : List Operation) → from ≤ size → IsSpaced (suc from) operations → Inside size operations
    → operations_between place inserted size (copy_of size from operations) ≡ gap place from inserted ++ operations
read_back size place from inserted [] within spaced inside = read_end (size - from) refl
  where
    all : take (size - from) (drop from (kept_from 0 size)) ++ [] ≡ kept_from from (size - from)
    all = append-nil (take (size - from) (drop from (kept_from 0 size))) ∙ range_kept from (size - from) size (omega arith)

    read_end : (left : ℕ) → size - from ≡ left → operations_between place inserted size (copy_of size from []) ≡ gap place from inserted ++ []
    read_end zero none_left =
        let same : from ≡ size = omega arith in
        ap (operations_between place inserted size) (all ∙ ap (kept_from from) none_left)
        ∙ ap (λ n. gap place n inserted) (sym same) ∙ sym (append-nil (gap place from inserted))
    read_end (suc left) some_left =
        let end : from + suc left ≡ size = omega arith in
        ap (operations_between place inserted size) (all ∙ ap (kept_from from) some_left ∙ sym (append-nil (kept_from from (suc left))))
        ∙ read_row place size from left inserted []
        ∙ ap (λ n. gap place from inserted ++ gap n size []) end
        ∙ ap (λ os. gap place from inserted ++ os) (gap-none size)
read_back size place from inserted (operation ∷ operations) within (starts, needed, rest) inside =
    let start = operation.offset in
    let end = end_of operation in
    let last : end ≤ size = inside 0 operation refl in
    let count = start - from - 1 in
    let some : start - from ≡ suc count = omega arith in
    let there : from + suc count ≡ start = omega arith in
    let later = map new_unit operation.insert ++ copy_of size end operations in
    let range : take (start - from) (drop from (kept_from 0 size)) ≡ kept_from from (suc count) =
    range_kept from (start - from) size (omega arith) ∙ ap (kept_from from) some in
    ap (λ xs. operations_between place inserted size (xs ++ later)) range
    ∙ read_row place size from count inserted later
    ∙ ap (λ n. gap place from inserted ++ operations_between n [] size later) there
    ∙ ap (λ os. gap place from inserted ++ os)
    (read_units start size [] operation.insert (copy_of size end operations)
    ∙ read_back size start end operation.insert operations last rest (λ index later_one is. inside (suc index) later_one is)
    ∙ ap (λ os. os ++ operations) (gap-operation operation needed))

-- all operations are read back
read_all : (size : ℕ) (operations : List Operation) → IsSpaced 0 operations → Inside size operations → operations_between 0 [] size (copy_of size 0 operations) ≡ operations
read_all size [] spaced inside =
    read_back size 0 0 [] [] (omega arith) tt inside ∙ ap (λ os. os ++ []) (gap-none 0)
read_all size (operation ∷ operations) (starts, needed, rest) inside = elim (cases_lt 0 operation.offset) [
  | inl behind ↦ read_back size 0 0 [] (operation ∷ operations) (omega arith) (behind, needed, rest) inside ∙ ap (λ os. os ++ (operation ∷ operations)) (gap-none 0)
  | inr first ↦
      let end = end_of operation in
      let last : end ≤ size = inside 0 operation refl in
      let here : 0 ≡ operation.offset = omega arith in
      let none_before : operation.offset - 0 ≡ 0 = omega arith in
      ap (λ n. operations_between 0 [] size (take n (kept_from 0 size) ++ (map new_unit operation.insert ++ copy_of size end operations))) none_before
      ∙ read_units 0 size [] operation.insert (copy_of size end operations)
      ∙ read_back size 0 end operation.insert operations last rest (λ index later_one is. inside (suc index) later_one is)
      ∙ ap (λ n. gap n end operation.insert ++ operations) here
      ∙ ap (λ os. os ++ operations) (gap-operation operation needed)
]

-- operations in normal form are spaced
spaced_next : (operation : Operation) (operations : List Operation)
    → ((index : ℕ) (earlier later : Operation) → slice_get (operation ∷ operations) index ≡ Some earlier → slice_get (operation ∷ operations) (suc index) ≡ Some later → end_of earlier < later.offset)
    → StartsFrom (suc (end_of operation)) operations
spaced_next operation [] apart = tt
spaced_next operation (next ∷ operations) apart = apart 0 operation next refl refl

spaced_from : (low : ℕ) (operations : List Operation) → StartsFrom low operations
    → ((index : ℕ) (earlier later : Operation) → slice_get operations index ≡ Some earlier → slice_get operations (suc index) ≡ Some later → end_of earlier < later.offset)
    → ((index : ℕ) (operation : Operation) → slice_get operations index ≡ Some operation → (0 < operation.remove) ⊎ (0 < length operation.insert))
    → IsSpaced low operations
spaced_from low [] starts apart needed = tt
spaced_from low (operation ∷ operations) starts apart needed = (
  starts,
  needed 0 operation refl,
  spaced_from (suc (end_of operation)) operations (spaced_next operation operations apart)
      (λ index earlier later is_earlier is_later. apart (suc index) earlier later is_earlier is_later)
      (λ index one_of is. needed (suc index) one_of is),
)

starts_zero : (operations : List Operation) → StartsFrom 0 operations
starts_zero [] = tt
starts_zero (operation ∷ operations) = omega arith

pub spaced_normal : (patch : Patch) → IsNormal patch → IsSpaced 0 patch.ops
spaced_normal patch normal =
    spaced_from 0 patch.ops (starts_zero patch.ops)
    (λ index earlier later is_earlier is_later. normal.untouched index earlier later is_earlier (rw add-one is_later))
    normal.needed

-- a patch in normal form is read back off its sources
pub read_normal : (patch : Patch) (size : ℕ) → IsNormal patch → ((index : ℕ) → ¬ (EndsAfter patch size index)) → operations_between 0 [] size (sources_of patch size) ≡ patch.ops
read_normal patch size normal inside =
    ap (operations_between 0 [] size) (sources-pieces patch (kept_from 0 size))
    ∙ ap (λ n. operations_between 0 [] size (flat_map (sources_of_piece (kept_from 0 size)) (pieces_from 0 n patch.ops))) (length-kept_from 0 size)
    ∙ read_all size patch.ops (spaced_normal patch normal) (inside_of patch size inside)

-- the sources after no operation are those before
sources_after-none : (patch : Patch) (sources : List UnitSource) → patch.ops ≡ [] → sources_after patch sources ≡ sources
sources_after-none patch sources none_there =
    sources-pieces patch sources
    ∙ ap (λ os. flat_map (sources_of_piece sources) (pieces_from 0 (length sources) os)) none_there
    ∙ append-nil (take (length sources - 0) sources)
    ∙ take_all (length sources - 0) sources (omega arith)

pub merged-empty_second : (first second : Patch) (size : ℕ) → second.ops ≡ [] → IsNormal first → ((index : ℕ) → ¬ (EndsAfter first size index)) → (merged first second size).ops ≡ first.ops
unfolding merged
merged-empty_second first second size none_there normal inside =
    ap (operations_between 0 [] size) (sources_after-none second (sources_of first size) none_there) ∙ read_normal first size normal inside

pub merged-empty_first : (first second : Patch) (size : ℕ) → first.ops ≡ [] → IsNormal second → ((index : ℕ) → ¬ (EndsAfter second size index)) → (merged first second size).ops ≡ second.ops
unfolding merged
merged-empty_first first second size none_there normal inside =
    ap (λ xs. operations_between 0 [] size (sources_after second xs)) (sources_after-none first (kept_from 0 size) none_there) ∙ read_normal second size normal inside
