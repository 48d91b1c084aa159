-- A loop that changes each element in turn.
use Rattle.std.proofs.Common.{◌≡◌, ◌<◌, ◌+◌, ◌++◌, List, ◌∷◌, [], take, drop, length, set, get_or, ℕ, sym, ◌∙◌, ap, arith, append_assoc}
use Rattle.std.proofs.lemmas.List.{drop_more, take_more_set, drop-set-lt}

pub next_of : {X : Type 0} (xs : List X) (i : ℕ) (x : X) → i < length xs → x ≡ get_or xs i x → drop i xs ≡ x ∷ drop (i + 1) xs
next_of xs i x within is = drop_more xs i x within ∙ ap (λ y. y ∷ drop (i + 1) xs) (sym is)

-- the element at `i` becomes `new`, which is what `f` makes of it in front of the rest, which `g` changes
pub changed_next : {X : Type 0} (f g : List X → List X) (xs whole : List X) (i : ℕ) (x new : X) → i < length xs
    → f (get_or xs i x ∷ drop (i + 1) xs) ≡ new ∷ g (drop (i + 1) xs) → take i xs ++ f (drop i xs) ≡ whole
    → take (i + 1) (set xs i new) ++ g (drop (i + 1) (set xs i new)) ≡ whole
changed_next f g xs whole i x new within made so_far =
    ap (λ os. os ++ g (drop (i + 1) (set xs i new))) (take_more_set xs i new within)
    ∙ ap (λ os. (take i xs ++ new ∷ []) ++ g os) (drop-set-lt (i + 1) xs i new (omega arith))
    ∙ append_assoc (take i xs) (new ∷ []) (g (drop (i + 1) xs))
    ∙ ap (λ os. take i xs ++ os) (sym made)
    ∙ ap (λ os. take i xs ++ f os) (sym (drop_more xs i x within))
    ∙ so_far
