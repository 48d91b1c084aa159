-- What was found, in another order.
use Rattle.std.proofs.Common.{◌≡◌, ◌≤◌, ◌⊎◌, inl, inr, List, [], ◌∷◌, ◌++◌, length, map, Contains, sym, ap, subst, arith, length-append}
use Rattle.std.specs.List.Sorted.{IsPermutation}
use Rattle.std.proofs.lemmas.List.{length-map}
use Rattle.std.proofs.lemmas.List.Sorted.{IsPermutation-sym, Contains-permutation, length_permutation}
use Rattle.pad_text.specs.declared.name.Name.{Name}
use Rattle.pad_graph.specs.declared.linking.Linking.{Linking}
use Rattle.pad_list.specs.Number.{NoRepeat}
use Rattle.pad_graph.specs.Inside.Hanging.{AreHanging}
use Rattle.pad_list.proofs.CallerLemmas.{contains_cases, Split, split, distinct_short, contains_map, mapped_from, no_repeat_without}
use Rattle.pad_graph.proofs.Marked.{contains_dec}
use Rattle.pad_graph.proofs.Spreading.{name_of}

-- a list with the members of one that has no repeat, and no longer, has none
pub same_once : (xs ys : List Name) → NoRepeat xs → length ys ≤ length xs → ((x : Name) → Contains xs x → Contains ys x) → NoRepeat ys
same_once xs [] once short sub = tt
same_once xs (y ∷ ys) once short sub = (λ c. too_many c, go (contains_dec xs y) (λ zs o s m. same_once zs ys o s m))
  where
    inside : (x : Name) → (y ≡ x) ⊎ Contains ys x → (y ≡ x → Contains ys x) → Contains ys x
    inside x (inl e) k = k e
    inside x (inr c) k = c

    too_many : Contains ys y → ⊥
    too_many c = omega (arith, short, distinct_short xs ys once (λ x k. inside x (contains_cases y ys x (sub x k)) (λ e. subst (Contains ys) e c)))

    less : (s : Split y xs) → (us vs : List Name) → xs ≡ us ++ y ∷ vs → ((zs : List Name) → NoRepeat zs → length ys ≤ length zs → ((x : Name) → Contains zs x → Contains ys x) → NoRepeat ys) → NoRepeat ys
    less s us vs e rest =
        let (o, out) = no_repeat_without y us vs (subst NoRepeat e once) in
        rest (us ++ vs) o (omega (arith, short, ap length e, length-append us (y ∷ vs), length-append us vs)) (λ x c. inside x (contains_cases y ys x (sub x (back us vs e x c))) (λ s. absurd (out (subst (Contains (us ++ vs)) (sym s) c))))
      where
        back : (us vs : List Name) → xs ≡ us ++ y ∷ vs → (x : Name) → Contains (us ++ vs) x → Contains xs x
        back us vs e x c = subst (λ zs. Contains zs x) (sym e) (Rattle.pad_list.proofs.CallerLemmas.contains_around y x us vs c)

    go : Contains xs y ⊎ (¬ (Contains xs y)) → ((zs : List Name) → NoRepeat zs → length ys ≤ length zs → ((x : Name) → Contains zs x → Contains ys x) → NoRepeat ys) → NoRepeat ys
    go (inl c) rest = let s = split y xs c in less s s.before s.after s.whole rest
    go (inr n) rest = absurd (omega (arith, short, distinct_short xs ys once (λ x k. inside x (contains_cases y ys x (sub x k)) (λ e. absurd (n (subst (Contains xs) (sym e) k))))))

pub sorted_once : (xs ys : List Linking) → IsPermutation xs ys → NoRepeat (map name_of xs) → NoRepeat (map name_of ys)
sorted_once xs ys p once =
    same_once (map name_of xs) (map name_of ys) once (omega (arith, length_permutation xs ys p, length-map xs name_of, length-map ys name_of)) (λ x c. let (l, k, e) = mapped_from name_of xs x c in subst (Contains (map name_of ys)) e (contains_map name_of ys l (Contains-permutation xs ys l p k)))

pub sorted_hanging : (children : Name → List Name) (first : Linking) (stop : Name) (xs ys : List Linking) → IsPermutation xs ys → AreHanging children first stop xs → AreHanging children first stop ys
sorted_hanging children first stop xs ys p h = record {
  once = sorted_once xs ys p h.once;
  each = λ l c. h.each l (Contains-permutation ys xs l (IsPermutation-sym xs ys p) c);
  every = λ names b. Contains-permutation xs ys _ p (h.every names b);
}
