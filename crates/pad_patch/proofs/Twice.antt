-- The inverse of an inverse, and what a patch removes.
use Rattle.std.proofs.Common.{◌≡◌, ℕ, ◌+◌, ◌-◌, ◌≤◌, inl, inr, List, [], ◌∷◌, ◌++◌, length, map, take, drop, replicate, refl, sym, ◌∙◌, ap, subst, arith, append_assoc}
use Rattle.std.specs.Prelude.{Some, None, slice_get}
use Rattle.std.specs.List.{range_with_len}
use Rattle.std.proofs.lemmas.List.{take_at, drop_at, length-append, length-take-le, length-drop, length-replicate}
use Rattle.pad_patch.specs.declared.operation.Operation.{Operation}
use Rattle.pad_patch.specs.declared.patch.Patch.{Patch}
use Rattle.pad_patch.specs.Piece.{end_of, patched, insertions, text_after}
use Rattle.pad_patch.specs.UnitStore.{between}
use Rattle.pad_patch.specs.Removed.{IsKeptFrom, removed_by}
use Rattle.pad_patch.specs.Inverse.{inverse, inverse_operation, inverse_operations}
use Rattle.pad_patch.specs.Misfit.{Overlaps, EndsAfter}
use Rattle.pad_patch.specs.Laws.{InverseTurnsRound, InverseOfInverse, RemovedAtPlaces}
use Rattle.pad_patch.proofs.Laid.{IsLaid, laid, ordered_laid, inside_laid}
use Rattle.pad_patch.proofs.Patched.{part}
use Rattle.pad_patch.proofs.Copies.{copy_from}
use Rattle.pad_patch.proofs.Has.{Has, has_left, has_right, has_cases, has_part, part_has, contains_has, has_contains}
use Rattle.pad_patch.proofs.Kept.{RemovedIn, removes_of, of_removes, kept_by_inverse}
use Rattle.pad_patch.proofs.Inverses.{IsCut, front_of, kept_size, next, laid_inverse, first, text_after-inverse, same_operation}

same_offset : (inserted removed place offset : ℕ) → removed ≤ place → place ≤ offset → offset + inserted - removed + removed - inserted ≡ offset
same_offset inserted removed place offset below starts = omega (arith, below, starts)

-- one operation, taken back twice
again : (text copy front : List ℕ) (inserted removed place : ℕ) (operation : Operation) (operations : List Operation) → place ≤ operation.offset → end_of operation ≤ length text
    → IsCut text copy front inserted removed place (operation ∷ operations)
    → inverse_operation removed inserted copy (inverse_operation inserted removed text operation) ≡ operation
again text copy front inserted removed place operation operations starts inside cut =
    let kept = between place operation.offset text in
    let later = copy_from text (end_of operation) operations in
    let undo = inverse_operation inserted removed text operation in
    let whole : copy ≡ (front ++ kept) ++ (operation.insert ++ later) = cut.whole ∙ sym (append_assoc front kept (operation.insert ++ later)) in
    let size : length (front ++ kept) ≡ undo.offset = omega (arith, length-append front kept, kept_size text place operation inside, cut.at, cut.below) in
    let count : end_of undo - undo.offset ≡ length operation.insert = omega arith in
    same_operation (inverse_operation removed inserted copy undo) operation
    (same_offset inserted removed place operation.offset cut.below starts)
    (length-take-le (end_of operation - operation.offset) (drop operation.offset text) (omega (arith, inside, length-drop operation.offset text)) ∙ omega arith)
    (ap (λ xs. take (end_of undo - undo.offset) (drop undo.offset xs)) whole
    ∙ ap (take (end_of undo - undo.offset)) (drop_at (front ++ kept) (operation.insert ++ later) undo.offset size)
    ∙ take_at operation.insert later (end_of undo - undo.offset) (sym count))

twice_from : (text copy front : List ℕ) (inserted removed place : ℕ) (operations : List Operation) → IsLaid place (length text) operations → IsCut text copy front inserted removed place operations
    → inverse_operations removed inserted copy (inverse_operations inserted removed text operations) ≡ operations
twice_from text copy front inserted removed place [] laid_out cut = refl
twice_from text copy front inserted removed place (operation ∷ operations) (starts, inside, rest) cut =
    let count = length operation.insert in
    let undos = inverse_operations (inserted + count) (removed + operation.remove) text operations in
    let here = inverse_operation removed inserted copy (inverse_operation inserted removed text operation) in
    let out : length (between operation.offset (end_of operation) text) ≡ operation.remove =
    length-take-le (end_of operation - operation.offset) (drop operation.offset text) (omega (arith, inside, length-drop operation.offset text)) ∙ omega arith in
    ap (λ n. here ∷ inverse_operations (removed + n) (inserted + count) copy undos) out
    ∙ ap (λ xs. here ∷ xs) (twice_from text copy (front_of text front place operation) (inserted + count) (removed + operation.remove) (end_of operation) operations rest
    (next text copy front inserted removed place operation operations starts inside cut))
    ∙ ap (λ o. o ∷ operations) (again text copy front inserted removed place operation operations starts inside cut)

pub inverse_of_inverse : InverseOfInverse
unfolding inverse
inverse_of_inverse patch text ordered inside = twice_from text (text_after patch text) [] 0 0 0 patch.ops (laid patch (length text) ordered inside) (first patch text)

-- the inverse stands in order in the text after the patch
pub laid_undo : (patch : Patch) (text : List ℕ) → IsLaid 0 (length text) patch.ops → IsLaid 0 (length (text_after patch text)) (inverse patch text).ops
unfolding inverse
laid_undo patch text laid_out = laid_inverse text (text_after patch text) [] 0 0 0 patch.ops laid_out (first patch text)

pub inverse_turns_round : InverseTurnsRound
inverse_turns_round patch text place at ordered inside = (
  kept_by_inverse patch text place at ordered inside,
  λ kept.
      let undo = inverse patch text in
      let after = text_after patch text in
      let size = length after in
      let laid_out = laid_undo patch text (laid patch (length text) ordered inside) in
      let same = inverse_of_inverse patch text ordered inside in
      let back = text_after-inverse patch text ordered inside in
      kept_by_inverse undo after at place (ordered_laid undo size laid_out) (inside_laid undo size laid_out)
      (subst (λ n. IsKeptFrom (inverse undo after) n place at) (ap length (sym back))
      (subst (λ os. slice_get (patched (record { ops = os; before = patch.before }) (replicate (length (insertions os)) None) (map Some (range_with_len 0 (length text)))) at ≡ Some (Some place)) (sym same) kept)),
)

pub removed_has : {A : Type 0} (e : A) (old : List A) (operations : List Operation) → Has e (removed_by operations old) → (place : ℕ) × RemovedIn operations place × (slice_get old place ≡ Some e)
removed_has e old [] has = absurd has
removed_has e old (operation ∷ operations) has = elim (has_cases e (part operation.offset (end_of operation) old) (removed_by operations old) has) [
  | inl here ↦ let found = part_has e operation.offset (end_of operation) old here in (found.0, inl (found.1, found.2), found.3)
  | inr later ↦ let found = removed_has e old operations later in (found.0, inr found.1, found.2)
]

pub has_removed : {A : Type 0} (e : A) (old : List A) (operations : List Operation) (place : ℕ) → RemovedIn operations place → slice_get old place ≡ Some e → Has e (removed_by operations old)
has_removed e old [] place removed is = absurd removed
has_removed e old (operation ∷ operations) place (inl here) is =
    has_left e (part operation.offset (end_of operation) old) (removed_by operations old) (has_part e operation.offset (end_of operation) place old here.0 here.1 is)
has_removed e old (operation ∷ operations) place (inr later) is =
    has_right e (part operation.offset (end_of operation) old) (removed_by operations old) (has_removed e old operations place later is)

pub removed_at_places : {A : Type 0} → RemovedAtPlaces A
removed_at_places patch old element = (
  λ contains. let found = removed_has element old patch.ops (contains_has element (removed_by patch.ops old) contains) in (found.0, removes_of patch.ops found.0 found.1, found.2),
  λ (place, (index, operation, is, from, below), stands). has_contains element (removed_by patch.ops old) (has_removed element old patch.ops place (of_removes patch.ops place index operation is from below) stands),
)

abbrev zeros : ℕ → List ℕ
zeros size = replicate size 0

-- a unit is kept at one place
pub kept_once : (patch : Patch) (size place at other : ℕ) → ((index : ℕ) → ¬ (Overlaps patch index)) → ((index : ℕ) → ¬ (EndsAfter patch size index)) → IsKeptFrom patch size place at → IsKeptFrom patch size place other → at ≡ other
kept_once patch size place at other ordered inside one two =
    let text = zeros size in
    let long : length text ≡ size = length-replicate size 0 in
    let within = subst (λ n. (index : ℕ) → ¬ (EndsAfter patch n index)) (sym long) inside in
    let first = (inverse_turns_round patch text place at ordered within).1 (subst (λ n. IsKeptFrom patch n place at) (sym long) one) in
    let second = (inverse_turns_round patch text place other ordered within).1 (subst (λ n. IsKeptFrom patch n place other) (sym long) two) in
    let same : Some (Some at) ≡ Some (Some other) = sym first ∙ second in
    cc
