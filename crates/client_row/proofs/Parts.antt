-- What a patch removes of a list, and what is at its end.
use Rattle.std.proofs.Common.{◌≡◌, ℕ, zero, suc, ◌+◌, ◌-◌, ◌≤◌, ◌<◌, ◌⊎◌, inl, inr, List, [], ◌∷◌, ◌++◌, length, map, take, drop, refl, sym, ◌∙◌, ap, None, arith, append-nil}
use Rattle.std.proofs.lemmas.List.{map-append, length-map, length-append, length-replicate, drop-replicate, take-replicate, drop-append-le, take-append-le}
use Rattle.std.proofs.Math.Seq.{drop-append_seam, take-append_seam, drop-append-add, take-append-add}
use Rattle.pad_patch.specs.declared.operation.Operation.{Operation}
use Rattle.pad_patch.specs.declared.patch.Patch.{Patch}
use Rattle.pad_patch.specs.Piece.{end_of, inserted, insertions}
use Rattle.pad_patch.specs.Inverse.{inverse, inverse_operations}
use Rattle.pad_patch.specs.Removed.{removed_by}
use Rattle.pad_patch.specs.UnitStore.{between}
use Rattle.pad_patch.proofs.CallerLemmas.{map-take, map-drop, map-const}
use Rattle.pad_stroke.specs.Row.{Row, no_marks}
use Rattle.client_row.specs.Kept.{last_entries}

-- ---- what is removed

pub map-removed : {A B : Type 0} (f : A → B) (operations : List Operation) (old : List A) → map f (removed_by operations old) ≡ removed_by operations (map f old)
map-removed f [] old = refl
map-removed f (operation ∷ operations) old =
    let count = end_of operation - operation.offset in
    map-append f (take count (drop operation.offset old)) (removed_by operations old)
    ∙ ap (λ xs. xs ++ map f (removed_by operations old)) (map-take f count (drop operation.offset old) ∙ ap (take count) (map-drop f operation.offset old))
    ∙ ap (λ xs. take count (drop operation.offset (map f old)) ++ xs) (map-removed f operations old)

pub length-removed : {A B : Type 0} (operations : List Operation) (xs : List A) (ys : List B) → length xs ≡ length ys → length (removed_by operations xs) ≡ length (removed_by operations ys)
length-removed operations xs ys same =
    sym (length-map {B = ℕ} (removed_by operations xs) (λ _. 0))
    ∙ ap length (map-removed (λ _. 0) operations xs ∙ ap (removed_by operations) (map-const 0 xs ys same) ∙ sym (map-removed (λ _. 0) operations ys))
    ∙ length-map {B = ℕ} (removed_by operations ys) (λ _. 0)

inserted_back : (inserted removed : ℕ) (text : List ℕ) (operations : List Operation) → insertions (inverse_operations inserted removed text operations) ≡ removed_by operations text
inserted_back inserted removed text [] = refl
inserted_back inserted removed text (operation ∷ operations) =
    ap (λ xs. between operation.offset (end_of operation) text ++ xs) (inserted_back (inserted + length operation.insert) (removed + operation.remove) text operations)

-- the inverse inserts as many units as the patch removed
pub inserted-inverse : {A : Type 0} (patch : Patch) (text : List ℕ) (old : List A) → length old ≡ length text → length (inserted (inverse patch text)) ≡ length (removed_by patch.ops old)
unfolding inverse
inserted-inverse patch text old same = ap length (inserted_back 0 0 text patch.ops) ∙ length-removed patch.ops text old (sym same)

-- ---- what is at the end

pub record Ends (count : ℕ) (row first last : Row) : Type 0 where
  pub back : last_entries count row ≡ last
  pub missing : ℕ
  pub left : no_marks missing ++ take (length row - count) row ≡ first

module _ (missing : ℕ) (row first last : Row) (is : no_marks missing ++ row ≡ first ++ last) where
  none_long : length (no_marks missing) ≡ missing
  none_long = length-replicate missing None

  all_long : missing + length row ≡ length first + length last
  all_long = ap (λ n. n + length row) (sym none_long) ∙ sym (length-append (no_marks missing) row) ∙ ap length is ∙ length-append first last

  at_end : drop (length first) (no_marks missing ++ row) ≡ last
  at_end = ap (drop (length first)) is ∙ drop-append_seam first last

  at_start : take (length first) (no_marks missing ++ row) ≡ first
  at_start = ap (take (length first)) is ∙ take-append_seam first last

  ends_within : length last ≤ length row → Ends (length last) row first last
  ends_within few =
      let n = length row - length last in
      let here : length first ≡ length (no_marks missing) + n = omega (arith, all_long, few, none_long) in
      let none : length last - length row ≡ 0 = omega (arith, few) in
      record {
        back = ap (λ k. no_marks k ++ drop n row) none ∙ sym (drop-append-add (no_marks missing) row n) ∙ ap (λ k. drop k (no_marks missing ++ row)) (sym here) ∙ at_end;
        missing = missing;
        left = sym (take-append-add (no_marks missing) row n) ∙ ap (λ k. take k (no_marks missing ++ row)) (sym here) ∙ at_start;
      }

  ends_beyond : length row < length last → Ends (length last) row first last
  ends_beyond many =
      let k = length first in
      let less : k ≤ missing = omega (arith, all_long, many) in
      let few : k ≤ length (no_marks missing) = omega (arith, less, none_long) in
      let count : missing - k ≡ length last - length row = omega (arith, all_long, many) in
      let none : length row - length last ≡ 0 = omega (arith, many) in
      record {
        back =
            ap (λ n. no_marks (length last - length row) ++ drop n row) none
            ∙ ap (λ n. no_marks n ++ row) (sym count)
            ∙ ap (λ xs. xs ++ row) (sym (drop-replicate k missing None))
            ∙ sym (drop-append-le k (no_marks missing) row few)
            ∙ at_end;
        missing = k;
        left =
            ap (λ n. no_marks k ++ take n row) none
            ∙ append-nil (no_marks k)
            ∙ sym (take-replicate k missing None less)
            ∙ sym (take-append-le k (no_marks missing) row few)
            ∙ at_start;
      }

within_or_beyond : (m n : ℕ) → (m ≤ n) ⊎ (n < m)
within_or_beyond zero n = inl (omega arith)
within_or_beyond (suc m) zero = inr (omega arith)
within_or_beyond (suc m) (suc n) = elim (within_or_beyond m n) [ inl less ↦ inl (omega (arith, less)) | inr more ↦ inr (omega (arith, more)) ]

pub ends : (missing : ℕ) (row first last : Row) → no_marks missing ++ row ≡ first ++ last → Ends (length last) row first last
ends missing row first last is = elim (within_or_beyond (length last) (length row)) [
  | inl few ↦ ends_within missing row first last is few
  | inr many ↦ ends_beyond missing row first last is many
]
