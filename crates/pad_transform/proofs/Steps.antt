-- One step more: an operation that goes through others from the last to the first, and a patch whose operations are taken one by one.
use Rattle.std.proofs.Common.{◌≡◌, ℕ, zero, suc, ◌+◌, ◌-◌, ◌<◌, ◌≤◌, List, [], ◌∷◌, ◌++◌, length, take, drop, slice_index_or, All, IfSome, sym, ◌∙◌, ap, subst, arith}
use Rattle.std.specs.Prelude.{Some, None}
use Rattle.std.specs.Option.{option_and_then}
use Rattle.std.specs.List.{filter_map, cons_option}
use Rattle.std.proofs.lemmas.List.{drop_more, take_more, append-nil}
use Rattle.std.proofs.lemmas.List.Elements.{All-cons, filter_map-append}
use Rattle.pad_patch.specs.declared.operation.Operation.{Operation}
use Rattle.pad_transform.specs.Table.{transformed, through, SumsFit, SumsFitThrough}

-- one element more of the rest of a list
drop_back : {X : Type 0} (xs : List X) (i : ℕ) (x : X) → 0 < i → i ≤ length xs → x ≡ slice_index_or xs (i - 1) x → drop (i - 1) xs ≡ x ∷ drop i xs
drop_back xs i x some within is =
    let next : i - 1 + 1 ≡ i = omega arith in
    drop_more xs (i - 1) x (omega arith) ∙ ap (λ y. y ∷ drop (i - 1 + 1) xs) (sym is) ∙ ap (λ j. x ∷ drop j xs) next

-- what is dropped on the way stays dropped
pub through-none : (by : List Operation) (i : ℕ) (a : Operation) → through (drop i by) a ≡ None → through by a ≡ None
through-none [] zero a none = none
through-none [] (suc i) a none = none
through-none (b ∷ later) zero a none = none
through-none (b ∷ later) (suc i) a none = ap (option_and_then (λ moved. transformed moved b)) (through-none later i a none)

SumsFitThrough-drop : (by : List Operation) (i : ℕ) (a : Operation) → SumsFitThrough by a → SumsFitThrough (drop i by) a
SumsFitThrough-drop [] zero a sums = sums
SumsFitThrough-drop [] (suc i) a sums = sums
SumsFitThrough-drop (b ∷ later) zero a sums = sums
SumsFitThrough-drop (b ∷ later) (suc i) a sums = SumsFitThrough-drop later i a sums.0

-- one step more through the operations
module _ (by : List Operation) (i : ℕ) (b : Operation) (some : 0 < i) (within : i ≤ length by) (is : b ≡ slice_index_or by (i - 1) b) where
  pub through-next : (a moved : Operation) → through (drop i by) a ≡ Some moved → through (drop (i - 1) by) a ≡ transformed moved b
  through-next a moved done =
      ap (λ os. through os a) (drop_back by i b some within is) ∙ ap (option_and_then (λ m. transformed m b)) done

  pub SumsFit-next : (a moved : Operation) → through (drop i by) a ≡ Some moved → SumsFitThrough by a → SumsFit moved b
  SumsFit-next a moved done sums =
      let here : SumsFitThrough (b ∷ drop i by) a = subst (λ os. SumsFitThrough os a) (drop_back by i b some within is) (SumsFitThrough-drop by (i - 1) a sums) in
      subst (λ o. IfSome o (λ m. SumsFit m b)) done here.1

  pub All-next : (P : Operation → Type 0) → All P (drop i by) → P b → All P (drop (i - 1) by)
  All-next P all here = subst (All P) (sym (drop_back by i b some within is)) (All-cons P b (drop i by) here all)

-- one operation more of a patch
module _ (by operations : List Operation) (i : ℕ) (a : Operation) (before : List Operation) (below : i < length operations) (is : a ≡ slice_index_or operations i a)
    (done : before ≡ filter_map (through by) (take i operations)) where
  through-more : filter_map (through by) (take (i + 1) operations) ≡ before ++ cons_option (through by a) []
  through-more =
      ap (filter_map (through by)) (take_more operations i a below ∙ ap (λ x. take i operations ++ x ∷ []) (sym is))
      ∙ filter_map-append (through by) (take i operations) (a ∷ [])
      ∙ ap (λ xs. xs ++ cons_option (through by a) []) (sym done)

  pub through-more_some : (moved : Operation) (after : List Operation) → through by a ≡ Some moved → after ≡ before ++ moved ∷ []
      → after ≡ filter_map (through by) (take (i + 1) operations)
  through-more_some moved after image pushed = pushed ∙ sym (through-more ∙ ap (λ o. before ++ cons_option o []) image)

  pub through-more_none : (after : List Operation) → through by a ≡ None → after ≡ before → after ≡ filter_map (through by) (take (i + 1) operations)
  through-more_none after image same = same ∙ sym (through-more ∙ ap (λ o. before ++ cons_option o []) image ∙ append-nil before)
