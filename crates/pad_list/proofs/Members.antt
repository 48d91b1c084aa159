-- Members of lists, and lists without repeats.
use Rattle.std.proofs.Common.{◌≡◌, zero, suc, ◌≤◌, ◌⊎◌, inl, inr, List, [], ◌∷◌, ◌++◌, length, Contains, refl, sym, ap, subst, arith, length-append}
use Rattle.pad_list.specs.Number.{NoRepeat}

pub contains_head : {A : Type 0} (x : A) (xs : List A) → Contains (x ∷ xs) x
contains_head x xs = (0, omega arith, refl)

pub contains_more : {A : Type 0} (y : A) (xs : List A) (x : A) → Contains xs x → Contains (y ∷ xs) x
contains_more y xs x h = (suc h.0, omega (arith, h.1), h.2)

pub contains_cases : {A : Type 0} (y : A) (xs : List A) (x : A) → Contains (y ∷ xs) x → (y ≡ x) ⊎ Contains xs x
contains_cases y xs x (zero, h, e) = inl e
contains_cases y xs x (suc k, h, e) = inr (k, omega (arith, h), e)

pub contains_none : {A : Type 0} (x : A) → ¬ (Contains [] x)
contains_none x h = omega (arith, h.1)

-- the list with x at some place
pub record Split {A : Type 0} (x : A) (xs : List A) : Type 0 where
  pub before : List A
  pub after : List A
  pub whole : xs ≡ before ++ x ∷ after

pub split : {A : Type 0} (x : A) (xs : List A) → Contains xs x → Split x xs
split x [] h = absurd (contains_none x h)
split {A = A} x (y ∷ xs) h = go (contains_cases y xs x h) (split x xs)
  where
    go : (y ≡ x) ⊎ Contains xs x → (Contains xs x → Split x xs) → Split x (y ∷ xs)
    go (inl e) rest = record { before = []; after = xs; whole = ap (λ z. z ∷ xs) e }
    go (inr k) rest = let s = rest k in record { before = y ∷ s.before; after = s.after; whole = ap (λ zs. y ∷ zs) s.whole }

pub contains_middle : {A : Type 0} (x z : A) (us vs : List A) → Contains (us ++ x ∷ vs) z → (x ≡ z) ⊎ Contains (us ++ vs) z
contains_middle x z [] vs h = contains_cases x vs z h
contains_middle {A = A} x z (u ∷ us) vs h = go (contains_cases u (us ++ x ∷ vs) z h) (contains_middle x z us vs)
  where
    more : (x ≡ z) ⊎ Contains (us ++ vs) z → (x ≡ z) ⊎ Contains (u ∷ us ++ vs) z
    more (inl e) = inl e
    more (inr k) = inr (contains_more u (us ++ vs) z k)

    go : (u ≡ z) ⊎ Contains (us ++ x ∷ vs) z → (Contains (us ++ x ∷ vs) z → (x ≡ z) ⊎ Contains (us ++ vs) z) → (x ≡ z) ⊎ Contains (u ∷ us ++ vs) z
    go (inl e) rest = inr (subst (Contains (u ∷ us ++ vs)) e (contains_head u (us ++ vs)))
    go (inr k) rest = more (rest k)

-- different elements of a list are at most as many as it has
pub distinct_short : {A : Type 0} (xs ys : List A) → NoRepeat xs → ((x : A) → Contains xs x → Contains ys x) → length xs ≤ length ys
distinct_short [] ys once sub = omega arith
distinct_short {A = A} (x ∷ xs) ys once sub =
    let s = split x ys (sub x (contains_head x xs)) in
    let rest = distinct_short xs (s.before ++ s.after) once.1 (others s) in
    omega (arith, rest, ap length s.whole, length-append s.before (x ∷ s.after), length-append s.before s.after)
  where
    others : (s : Split x ys) (z : A) → Contains xs z → Contains (s.before ++ s.after) z
    others s z h = go (contains_middle x z s.before s.after (subst (λ w. Contains w z) s.whole (sub z (contains_more x xs z h))))
      where
        go : (x ≡ z) ⊎ Contains (s.before ++ s.after) z → Contains (s.before ++ s.after) z
        go (inl e) = absurd (once.0 (subst (Contains xs) (sym e) h))
        go (inr k) = k
