-- The inverse of a patch gives back each list that the patch copies.
use Rattle.std.proofs.Common.{◌≡◌, ℕ, ◌+◌, ◌-◌, ◌≤◌, List, [], ◌∷◌, ◌++◌, length, take, drop, refl, sym, ◌∙◌, ap, subst, arith, append_assoc}
use Rattle.std.proofs.lemmas.List.{take_at, drop_at, take_all, append-nil, length-append, length-take-le, length-drop}
use Rattle.pad_patch.specs.declared.operation.Operation.{Operation}
use Rattle.pad_patch.specs.declared.patch.Patch.{Patch}
use Rattle.pad_patch.specs.Piece.{end_of, pieces_from, patched_pieces, patched, insertions, inserted}
use Rattle.pad_patch.specs.Removed.{removed_by}
use Rattle.pad_patch.specs.Inverse.{inverse, inverse_operations}
use Rattle.pad_patch.specs.Misfit.{Overlaps, EndsAfter}
use Rattle.pad_patch.proofs.Laid.{IsLaid, laid}
use Rattle.pad_patch.proofs.Patched.{part, length-part, range-drop, patched-next}

-- where a place of the text stands in the copy
abbrev pub moved : ℕ → ℕ → ℕ → ℕ
moved inserted removed place = place + inserted - removed

-- what the copy is made of up to an operation, and from there on
record IsSpot {A : Type 0} (old new copy front : List A) (inserted removed place : ℕ) (operations : List Operation) : Type 0 where
  pub whole : copy ≡ front ++ patched_pieces old new (pieces_from place (length old) operations)
  pub at : length front ≡ moved inserted removed place
  pub below : removed ≤ place
  pub counted : length new ≡ length (insertions operations)

-- the front of the copy, with one operation more
abbrev front_of : {A : Type 0} → List A → List A → List A → ℕ → Operation → List A
front_of old new front place operation = (front ++ part place operation.offset old) ++ take (length operation.insert) new

spot_next : {A : Type 0} (old new copy front : List A) (inserted removed place : ℕ) (operation : Operation) (operations : List Operation)
    → place ≤ operation.offset → end_of operation ≤ length old → IsSpot old new copy front inserted removed place (operation ∷ operations)
    → IsSpot old (drop (length operation.insert) new) copy (front_of old new front place operation) (inserted + length operation.insert) (removed + operation.remove) (end_of operation) operations
spot_next old new copy front inserted removed place operation operations starts inside spot =
    let kept = part place operation.offset old in
    let count = length operation.insert in
    let rest = patched_pieces old (drop count new) (pieces_from (end_of operation) (length old) operations) in
    let sizes = length-append operation.insert (insertions operations) in
    record {
      whole = spot.whole ∙ sym (append_assoc (front ++ kept) (take count new) rest ∙ append_assoc front kept (take count new ++ rest));
      at = omega (arith, length-append (front ++ kept) (take count new), length-append front kept, length-part place operation.offset old (omega (arith, inside)), length-take-le count new (omega (arith, spot.counted, sizes)), spot.at, spot.below);
      below = omega (arith, spot.below);
      counted = omega (arith, length-drop count new, spot.counted, sizes);
    }

-- the copy from its front on
behind : {A : Type 0} (old new copy front : List A) (inserted removed place : ℕ) (operations : List Operation) → IsSpot old new copy front inserted removed place operations
    → drop (moved inserted removed place) copy ≡ patched_pieces old new (pieces_from place (length old) operations)
behind old new copy front inserted removed place operations spot =
    let rest = patched_pieces old new (pieces_from place (length old) operations) in
    ap (drop (moved inserted removed place)) spot.whole ∙ drop_at front rest (moved inserted removed place) spot.at

-- where an operation of the inverse ends
pub inverse_end : (inserted removed place : ℕ) (operation : Operation) → place ≤ operation.offset → removed ≤ place
    → operation.offset + inserted - removed + length operation.insert ≡ moved (inserted + length operation.insert) (removed + operation.remove) (end_of operation)
inverse_end inserted removed place operation starts below = omega arith

-- the inverse gives the list back from a place on
undone_from : {A : Type 0} (text : List ℕ) (old new copy front : List A) (inserted removed place : ℕ) (operations : List Operation)
    → length text ≡ length old → IsLaid place (length old) operations → IsSpot old new copy front inserted removed place operations
    → patched_pieces copy (removed_by operations old) (pieces_from (moved inserted removed place) (length copy) (inverse_operations inserted removed text operations)) ≡ drop place old
undone_from text old new copy front inserted removed place [] same laid_out spot =
    let here = moved inserted removed place in
    let rest = patched_pieces old new (pieces_from place (length old) []) in
    append-nil (part here (length copy) copy)
    ∙ ap (take (length copy - here)) (behind old new copy front inserted removed place [] spot)
    ∙ take_all (length copy - here) rest (omega (arith, ap length spot.whole, length-append front rest, spot.at))
    ∙ append-nil (part place (length old) old)
    ∙ take_all (length old - place) (drop place old) (omega (arith, length-drop place old))
undone_from text old new copy front inserted removed place (operation ∷ operations) same (starts, inside, rest) spot =
    let here = moved inserted removed place in
    let offset = operation.offset + inserted - removed in
    let count = length operation.insert in
    let kept = part place operation.offset old in
    let later = take count new ++ patched_pieces old (drop count new) (pieces_from (end_of operation) (length old) operations) in
    let inverses = inverse_operations (inserted + count) (removed + operation.remove) text operations in
    let out = part operation.offset (end_of operation) old in
    let back = removed_by operations old in
    let size : offset - here ≡ operation.offset - place = omega (arith, spot.below) in
    let out_size : length out ≡ length (part operation.offset (end_of operation) text) =
    length-part operation.offset (end_of operation) old inside ∙ sym (length-part operation.offset (end_of operation) text (omega (arith, same, inside))) in
    let head : take (offset - here) (drop here copy) ≡ kept =
    ap (λ n. take n (drop here copy)) size
    ∙ ap (take (operation.offset - place)) (behind old new copy front inserted removed place (operation ∷ operations) spot)
    ∙ take_at kept later (operation.offset - place) (length-part place operation.offset old (omega (arith, inside))) in
    let tail : patched_pieces copy back (pieces_from (offset + count) (length copy) inverses) ≡ drop (end_of operation) old =
    ap (λ n. patched_pieces copy back (pieces_from n (length copy) inverses)) (inverse_end inserted removed place operation starts spot.below)
    ∙ undone_from text old (drop count new) copy (front_of old new front place operation) (inserted + count) (removed + operation.remove) (end_of operation) operations same rest
    (spot_next old new copy front inserted removed place operation operations starts inside spot) in
    let order : operation.offset ≤ end_of operation = omega arith in
    patched-next copy out back here (length copy) (record { offset = offset; remove = count; insert = part operation.offset (end_of operation) text }) inverses out_size
    ∙ ap (λ xs. xs ++ (out ++ patched_pieces copy back (pieces_from (offset + count) (length copy) inverses))) head
    ∙ ap (λ xs. kept ++ (out ++ xs)) tail
    ∙ ap (λ xs. kept ++ xs) (range-drop operation.offset (end_of operation) old order)
    ∙ range-drop place operation.offset old starts

-- the inverse gives back the list, where what the patch removed of it is put in again
pub patched-inverse : {A : Type 0} (patch : Patch) (text : List ℕ) (new old : List A) → ((index : ℕ) → ¬ (Overlaps patch index)) → ((index : ℕ) → ¬ (EndsAfter patch (length text) index))
    → length text ≡ length old → length new ≡ length (inserted patch)
    → patched (inverse patch text) (removed_by patch.ops old) (patched patch new old) ≡ old
unfolding inverse
patched-inverse patch text new old ordered inside same counted =
    undone_from text old new (patched patch new old) [] 0 0 0 patch.ops same (subst (λ n. IsLaid 0 n patch.ops) same (laid patch (length text) ordered inside))
    (record { whole = refl; at = refl; below = omega arith; counted = counted })

-- what the inverse inserts is what the patch removed
pub inserted-inverse_operations : (inserted removed : ℕ) (text : List ℕ) (operations : List Operation) → removed_by operations text ≡ insertions (inverse_operations inserted removed text operations)
inserted-inverse_operations inserted removed text [] = refl
inserted-inverse_operations inserted removed text (operation ∷ operations) =
    ap (λ xs. part operation.offset (end_of operation) text ++ xs) (inserted-inverse_operations (inserted + length operation.insert) (removed + operation.remove) text operations)
