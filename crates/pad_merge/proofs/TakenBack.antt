-- Insertions that are taken back leave no operation.
use Rattle.std.proofs.Common.{◌≡◌, ℕ, zero, suc, ◌+◌, ◌-◌, List, [], ◌∷◌, ◌++◌, length, map, take, drop, refl, sym, ◌∙◌, ap, arith, append_assoc}
use Rattle.std.specs.Prelude.{Some, slice_get}
use Rattle.std.specs.List.{flat_map}
use Rattle.std.proofs.lemmas.List.{append-nil, take_all, take_at, drop_at, length-append, length-map}
use Rattle.pad_patch.specs.declared.operation.Operation.{Operation}
use Rattle.pad_patch.specs.declared.patch.Patch.{Patch}
use Rattle.pad_patch.specs.Piece.{end_of, pieces_from}
use Rattle.pad_patch.specs.UnitStore.{between}
use Rattle.pad_patch.specs.Misfit.{HasOperation, Overlaps, EndsAfter}
use Rattle.pad_patch.specs.Inverse.{inverse, inverse_operations}
use Rattle.pad_patch.proofs.CallerLemmas.{IsLaid, laid}
use Rattle.pad_merge.specs.UnitSource.{UnitSource, kept_at, new_unit, kept_from, sources_of}
use Rattle.pad_merge.specs.Merge.{operations_between, merged}
use Rattle.pad_merge.proofs.Sources.{sources_of_piece, sources-pieces, length-kept_from}
use Rattle.pad_merge.proofs.Readback.{copy_of, range_kept, gap-none, read_row}

-- kept units that continue each other
kept-append : (place first second : ℕ) → kept_from place first ++ kept_from (place + first) second ≡ kept_from place (first + second)
kept-append place zero second =
    let here : place + 0 ≡ place = omega arith in
    let all : second ≡ 0 + second = omega arith in
    ap (λ n. kept_from n second) here ∙ ap (kept_from place) all
kept-append place (suc first) second =
    let there : place + suc first ≡ suc place + first = omega arith in
    let all : suc (first + second) ≡ suc first + second = omega arith in
    ap (λ n. kept_at place ∷ (kept_from (suc place) first ++ kept_from n second)) there
    ∙ ap (λ xs. kept_at place ∷ xs) (kept-append (suc place) first second)
    ∙ ap (kept_from place) all

-- no operation removes a unit
abbrev KeepsAll : List Operation → Type 0
KeepsAll operations = (index : ℕ) (operation : Operation) → slice_get operations index ≡ Some operation → operation.remove ≡ 0

-- the inverse of insertions keeps the text from a place on
kept_back : (size : ℕ) (text : List ℕ) (sources front : List UnitSource) (inserted removed place : ℕ) (operations : List Operation)
    → removed ≡ 0 → IsLaid place size operations → KeepsAll operations → sources ≡ front ++ copy_of size place operations → length front ≡ place + inserted - removed
    → flat_map (sources_of_piece sources) (pieces_from (place + inserted - removed) (length sources) (inverse_operations inserted removed text operations)) ≡ kept_from place (size - place)
kept_back size text sources front inserted removed place [] none laid_out keeps whole at =
    let here = place + inserted - removed in
    let behind : drop here sources ≡ copy_of size place [] = ap (drop here) whole ∙ drop_at front (copy_of size place []) here at in
    let count : length sources ≡ here + length (copy_of size place []) =
    ap length whole ∙ length-append front (copy_of size place []) ∙ ap (λ n. n + length (copy_of size place [])) at in
    append-nil (take (length sources - here) (drop here sources))
    ∙ ap (take (length sources - here)) behind
    ∙ take_all (length sources - here) (copy_of size place []) (omega arith)
    ∙ append-nil (take (size - place) (drop place (kept_from 0 size)))
    ∙ range_kept place (size - place) size (omega arith)
kept_back size text sources front inserted removed place (operation ∷ operations) none (starts, inside, rest) keeps whole at =
    let here = place + inserted - removed in
    let start = operation.offset in
    let end = end_of operation in
    let offset = start + inserted - removed in
    let range = take (start - place) (drop place (kept_from 0 size)) in
    let units = map new_unit operation.insert in
    let later = copy_of size end operations in
    let inserted_next = inserted + length operation.insert in
    let removed_next = removed + operation.remove in
    let removes : operation.remove ≡ 0 = keeps 0 operation refl in
    let kept_range : range ≡ kept_from place (start - place) = range_kept place (start - place) size (omega arith) in
    let range_size : length range ≡ start - place = ap length kept_range ∙ length-kept_from place (start - place) in
    let behind : drop here sources ≡ range ++ (units ++ later) = ap (drop here) whole ∙ drop_at front (range ++ (units ++ later)) here at in
    let distance : offset - here ≡ start - place = omega arith in
    let head : take (offset - here) (drop here sources) ≡ kept_from place (start - place) =
    ap (λ n. take n (drop here sources)) distance ∙ ap (take (start - place)) behind ∙ take_at range (units ++ later) (start - place) range_size ∙ kept_range in
    let nothing : end - start ≡ 0 = omega arith in
    let middle : map new_unit (between start end text) ≡ [] = ap (λ n. map new_unit (take n (drop start text))) nothing in
    let there : offset + length operation.insert ≡ end + inserted_next - removed_next = omega arith in
    let whole_next : sources ≡ ((front ++ range) ++ units) ++ later =
    whole ∙ sym (append_assoc (front ++ range) units later ∙ append_assoc front range (units ++ later)) in
    let at_next : length ((front ++ range) ++ units) ≡ end + inserted_next - removed_next =
    omega (arith, length-append (front ++ range) units, length-append front range, length-map operation.insert new_unit, range_size, at) in
    let inverses = inverse_operations inserted_next removed_next text operations in
    let tail : flat_map (sources_of_piece sources) (pieces_from (offset + length operation.insert) (length sources) inverses) ≡ kept_from end (size - end) =
    ap (λ n. flat_map (sources_of_piece sources) (pieces_from n (length sources) inverses)) there
    ∙ kept_back size text sources ((front ++ range) ++ units) inserted_next removed_next end operations (omega arith) rest
    (λ index later_one is. keeps (suc index) later_one is) whole_next at_next in
    let end_there : end ≡ place + (start - place) = omega arith in
    let count : (start - place) + (size - end) ≡ size - place = omega arith in
    ap (λ xs. xs ++ (map new_unit (between start end text) ++ flat_map (sources_of_piece sources) (pieces_from (offset + length operation.insert) (length sources) inverses))) head
    ∙ ap (λ xs. kept_from place (start - place) ++ (xs ++ flat_map (sources_of_piece sources) (pieces_from (offset + length operation.insert) (length sources) inverses))) middle
    ∙ ap (λ xs. kept_from place (start - place) ++ xs) tail
    ∙ ap (λ n. kept_from place (start - place) ++ kept_from n (size - end)) end_there
    ∙ kept-append place (start - place) (size - end)
    ∙ ap (kept_from place) count

-- kept units alone have no gap
no_gaps : (size : ℕ) → operations_between 0 [] size (kept_from 0 size) ≡ []
no_gaps zero = gap-none 0
no_gaps (suc count) =
    let end : 0 + suc count ≡ suc count = omega arith in
    ap (operations_between 0 [] (suc count)) (sym (append-nil (kept_from 0 (suc count))))
    ∙ read_row 0 (suc count) 0 count [] []
    ∙ ap (λ os. os ++ operations_between (0 + suc count) [] (suc count) []) (gap-none 0)
    ∙ ap (λ n. operations_between n [] (suc count) []) end
    ∙ gap-none (suc count)

pub merged-inverse : (patch : Patch) (text : List ℕ) → ((index : ℕ) → ¬ (Overlaps patch index)) → ((index : ℕ) → ¬ (EndsAfter patch (length text) index))
    → ((index : ℕ) (operation : Operation) → HasOperation patch index operation → operation.remove ≡ 0)
    → (merged patch (inverse patch text) (length text)).ops ≡ []
unfolding merged inverse
merged-inverse patch text ordered inside keeps =
    let size = length text in
    let sources = sources_of patch size in
    let whole : sources ≡ copy_of size 0 patch.ops =
    sources-pieces patch (kept_from 0 size) ∙ ap (λ n. flat_map (sources_of_piece (kept_from 0 size)) (pieces_from 0 n patch.ops)) (length-kept_from 0 size) in
    ap (operations_between 0 [] size) (sources-pieces (inverse patch text) sources ∙ kept_back size text sources [] 0 0 0 patch.ops refl (laid patch size ordered inside) keeps whole refl ∙ ap (kept_from 0) (minus_zero size))
    ∙ no_gaps size
  where
    minus_zero : (n : ℕ) → n - 0 ≡ n
    minus_zero n = omega arith
