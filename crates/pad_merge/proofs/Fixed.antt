-- A merge is the one patch in normal form whose units have the sources of those after both patches.
use Rattle.std.proofs.Common.{◌≡◌, ℕ, suc, ◌-◌, ◌≤◌, List, [], ◌∷◌, ◌++◌, map, take, drop, sym, ◌∙◌, ap, arith, append_assoc}
use Rattle.std.specs.List.{flat_map}
use Rattle.std.proofs.lemmas.List.{append-nil, map-append}
use Rattle.pad_patch.specs.declared.operation.Operation.{Operation}
use Rattle.pad_patch.specs.declared.patch.Patch.{Patch}
use Rattle.pad_patch.specs.Piece.{end_of, pieces_from}
use Rattle.pad_patch.specs.Misfit.{EndsAfter}
use Rattle.pad_patch.proofs.CallerLemmas.{IsLaid}
use Rattle.pad_merge.specs.UnitSource.{UnitSource, kept_at, new_unit, kept_from, sources_of, sources_after, IsAscending}
use Rattle.pad_merge.specs.Merge.{gap, operations_between, merged, CanMerge, IsNormal}
use Rattle.pad_merge.proofs.Sources.{sources_of_piece, sources-pieces, length-kept_from}
use Rattle.pad_merge.proofs.Reading.{IsGap, none, one, gap_cases, replacing, laid_between}
use Rattle.pad_merge.proofs.Both.{rising_both}
use Rattle.pad_merge.proofs.Readback.{copy_of, range_kept, read_normal}

-- the copy of a gap is its new units
gap_copy : (size from to : ℕ) (inserted : List ℕ) (later found : List Operation) → IsGap from to inserted found → from ≤ to
    → copy_of size from (found ++ later) ≡ map new_unit inserted ++ copy_of size to later
gap_copy size from to inserted later found (none same nothing is) order =
    ap (λ os. copy_of size from (os ++ later)) is ∙ ap (λ n. copy_of size n later) same ∙ ap (λ us. map new_unit us ++ copy_of size to later) (sym nothing)
gap_copy size from to inserted later found (one some is) order =
    let kept_none : from - from ≡ 0 = omega arith in
    let end : end_of (replacing from to inserted) ≡ to = omega arith in
    ap (λ os. copy_of size from (os ++ later)) is
    ∙ ap (λ n. take n (drop from (kept_from 0 size)) ++ (map new_unit inserted ++ copy_of size (end_of (replacing from to inserted)) later)) kept_none
    ∙ ap (λ n. map new_unit inserted ++ copy_of size n later) end

-- a kept unit and what stands behind it
next_copy : (size at : ℕ) (operations : List Operation) → IsLaid (suc at) size operations → copy_of size at operations ≡ kept_at at ∷ copy_of size (suc at) operations
next_copy size at [] laid_out =
    let kept = kept_from 0 size in
    let count : size - at ≡ suc (size - suc at) = omega arith in
    append-nil (take (size - at) (drop at kept))
    ∙ range_kept at (size - at) size (omega arith)
    ∙ ap (kept_from at) count
    ∙ ap (λ xs. kept_at at ∷ xs) (sym (append-nil (take (size - suc at) (drop (suc at) kept)) ∙ range_kept (suc at) (size - suc at) size (omega arith)))
next_copy size at (operation ∷ operations) (starts, inside, rest) =
    let start = operation.offset in
    let later = map new_unit operation.insert ++ copy_of size (end_of operation) operations in
    let count : start - at ≡ suc (start - suc at) = omega arith in
    ap (λ xs. xs ++ later)
    (range_kept at (start - at) size (omega arith) ∙ ap (kept_from at) count ∙ ap (λ xs. kept_at at ∷ xs) (sym (range_kept (suc at) (start - suc at) size (omega arith))))

-- the operations that are read off sources make units of these sources
copy_between : (size place : ℕ) (inserted : List ℕ) (sources : List UnitSource) → IsAscending place size sources
    → copy_of size place (operations_between place inserted size sources) ≡ map new_unit inserted ++ sources
copy_between size place inserted [] rises =
    let found = gap place size inserted in
    let nothing_left : size - size ≡ 0 = omega arith in
    ap (copy_of size place) (sym (append-nil found))
    ∙ gap_copy size place size inserted [] found (gap_cases place size inserted) rises
    ∙ ap (λ n. map new_unit inserted ++ (take n (drop size (kept_from 0 size)) ++ [])) nothing_left
copy_between size place inserted (kept_at at ∷ sources) rises =
    let later = operations_between (suc at) [] size sources in
    gap_copy size place at inserted later (gap place at inserted) (gap_cases place at inserted) rises.0
    ∙ ap (λ xs. map new_unit inserted ++ xs) (next_copy size at later (laid_between (suc at) size [] sources rises.1))
    ∙ ap (λ xs. map new_unit inserted ++ (kept_at at ∷ xs)) (copy_between size (suc at) [] sources rises.1)
copy_between size place inserted (new_unit unit ∷ sources) rises =
    copy_between size place (inserted ++ unit ∷ []) sources rises
    ∙ ap (λ xs. xs ++ sources) (map-append new_unit inserted (unit ∷ []))
    ∙ append_assoc (map new_unit inserted) (new_unit unit ∷ []) sources

pub sources_of-merged : (first second : Patch) (size : ℕ) → CanMerge first second size → sources_of (merged first second size) size ≡ sources_after second (sources_of first size)
unfolding merged
sources_of-merged first second size can =
    let sources = sources_after second (sources_of first size) in
    sources-pieces (merged first second size) (kept_from 0 size)
    ∙ ap (λ n. flat_map (sources_of_piece (kept_from 0 size)) (pieces_from 0 n (operations_between 0 [] size sources))) (length-kept_from 0 size)
    ∙ copy_between size 0 [] sources (rising_both first second size can)

pub normal_fixed : (first second : Patch) (size : ℕ) → IsNormal first → ((index : ℕ) → ¬ (EndsAfter first size index)) → IsNormal second → ((index : ℕ) → ¬ (EndsAfter second size index))
    → sources_of first size ≡ sources_of second size → first.ops ≡ second.ops
normal_fixed first second size first_normal first_inside second_normal second_inside same =
    sym (read_normal first size first_normal first_inside) ∙ ap (operations_between 0 [] size) same ∙ read_normal second size second_normal second_inside
