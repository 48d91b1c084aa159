-- Facts on JSON arrays as lists.
use Rattle.std.proofs.Common.{◌≡◌, ℕ, zero, suc, ◌<◌, ◌≤◌, List, [], ◌∷◌, ◌++◌, length, map, get_or, sym, ap, ◌∙◌, arith}
use Rattle.std.specs.List.{All}
use Rattle.std.proofs.lemmas.List.{length-map, length_push, same_from_push}
use Rattle.std.proofs.lemmas.List.Elements.{All-head, All-tail}
use Rattle.serde_json.specs.Data.{Data}
use Rattle.pad_json.specs.Data.{array_of}
use Rattle.pad_json.proofs.CallerLemmas.{one_list}

-- as many values as there are elements
pub length-three : {X : Type 0} (f : X → Data) (xs : List X) (a b c : Data) → array_of (map f xs) ≡ array_of (a ∷ b ∷ c ∷ []) → length xs ≡ 3
length-three f xs a b c same = sym (length-map xs f) ∙ ap length (one_list (map f xs) (a ∷ b ∷ c ∷ []) same)

-- an array with three values in front has as many elements
pub at-least-three : {X : Type 0} (f : X → Data) (xs : List X) (a b c : Data) (after : List Data) → array_of (map f xs) ≡ array_of (a ∷ b ∷ c ∷ after) → 3 ≤ length xs
at-least-three f xs a b c after same =
    let e = ap length (one_list (map f xs) (a ∷ b ∷ c ∷ after) same) in
    omega (arith, e, length-map xs f)

-- where two lists have the same values, an element of the one has its partner in the other
pub partner : {X Y : Type 0} (f : X → Data) (g : Y → Data) (P : Y → Type 0) (xs : List X) (ys : List Y) (i : ℕ) (x : X)
    → map f xs ≡ map g ys → i < length xs → x ≡ get_or xs i x → All P ys → (y : Y) × P y × (f x ≡ g y)
partner f g P [] ys i x same less is all = absurd (omega arith)
partner f g P (a ∷ xs) [] i x same less is all = absurd (cc)
partner f g P (a ∷ xs) (b ∷ ys) zero x same less is all =
    let first : f a ≡ g b = cc in
    (b, All-head P b ys all, ap f is ∙ first)
partner f g P (a ∷ xs) (b ∷ ys) (suc i) x same less is all =
    let rest : map f xs ≡ map g ys = cc in
    partner f g P xs ys i x rest (omega arith) is (All-tail P b ys all)

-- the last value of an array, and those before it, are one
pub same-parts : (front back : List Data) (last other : Data) → array_of (front ++ last ∷ []) ≡ array_of (back ++ other ∷ []) → (front ≡ back) × (last ≡ other)
same-parts front back last other same = same_from_push front back last other (one_list (front ++ last ∷ []) (back ++ other ∷ []) same)

-- lists with the same values are of one length
pub same-length : {X Y : Type 0} (f : X → Data) (g : Y → Data) (xs : List X) (ys : List Y) → map f xs ≡ map g ys → length xs ≡ length ys
same-length f g xs ys same = sym (length-map xs f) ∙ (ap length same ∙ length-map ys g)

-- an array with a last value has an element
pub has-last : {X : Type 0} (f : X → Data) (xs : List X) (front : List Data) (last : Data) → array_of (map f xs) ≡ array_of (front ++ last ∷ []) → 0 < length xs
has-last f xs front last same =
    let e = ap length (one_list (map f xs) (front ++ last ∷ []) same) in
    omega (arith, e, length-map xs f, length_push front last)
