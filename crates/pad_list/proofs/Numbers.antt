-- How many different things there are: one more, the same, and as many as the keys that tell them apart.
use Rattle.std.proofs.Common.{◌≡◌, ◌≢◌, ◌↔◌, ℕ, ◌+◌, ◌-◌, ◌≤◌, ◌⊎◌, inl, inr, List, [], ◌∷◌, ◌++◌, length, map, Contains, refl, sym, ap, ap₂, ◌∙◌, subst, arith, length-append}
use Rattle.std.proofs.lemmas.List.{length-map}
use Rattle.std.proofs.lemmas.List.Elements.{Contains-append_left, Contains-append_right, Contains-push_cases}
use Rattle.pad_list.specs.Number.{NoRepeat, IsNumberOf}
use Rattle.pad_list.proofs.Members.{contains_head, contains_more, contains_cases, contains_none, contains_middle, Split, split, distinct_short}

-- ---- lists without repeats

pub no_repeat_front : {A : Type 0} (xs : List A) (y : A) (ys : List A) → NoRepeat (xs ++ y ∷ ys) → ¬ (Contains xs y)
no_repeat_front [] y ys h c = contains_none y c
no_repeat_front (x ∷ xs) y ys h c = go (contains_cases x xs y c) (no_repeat_front xs y ys h.1)
  where
    go : (x ≡ y) ⊎ Contains xs y → ¬ (Contains xs y) → ⊥
    go (inl e) rest = h.0 (subst (Contains (xs ++ y ∷ ys)) (sym e) (Contains-append_right xs (y ∷ ys) y (contains_head y ys)))
    go (inr k) rest = rest k

pub no_repeat_push : {A : Type 0} (xs : List A) (y : A) → NoRepeat xs → ¬ (Contains xs y) → NoRepeat (xs ++ y ∷ [])
no_repeat_push [] y h n = (λ c. contains_none y c, tt)
no_repeat_push {A = A} (x ∷ xs) y h n = (λ c. go (Contains-push_cases xs y x c), no_repeat_push xs y h.1 (λ c. n (contains_more x xs y c)))
  where
    go : Contains xs x ⊎ (y ≡ x) → ⊥
    go (inl k) = h.0 k
    go (inr e) = n (subst (Contains (x ∷ xs)) (sym e) (contains_head x xs))

pub contains_around : {A : Type 0} (x z : A) (us vs : List A) → Contains (us ++ vs) z → Contains (us ++ x ∷ vs) z
contains_around x z [] vs h = contains_more x vs z h
contains_around {A = A} x z (u ∷ us) vs h = go (contains_cases u (us ++ vs) z h) (contains_around x z us vs)
  where
    go : (u ≡ z) ⊎ Contains (us ++ vs) z → (Contains (us ++ vs) z → Contains (us ++ x ∷ vs) z) → Contains (u ∷ us ++ x ∷ vs) z
    go (inl e) rest = subst (Contains (u ∷ us ++ x ∷ vs)) e (contains_head u (us ++ x ∷ vs))
    go (inr k) rest = contains_more u (us ++ x ∷ vs) z (rest k)

pub no_repeat_without : {A : Type 0} (x : A) (us vs : List A) → NoRepeat (us ++ x ∷ vs) → NoRepeat (us ++ vs) × ¬ (Contains (us ++ vs) x)
no_repeat_without x [] vs h = (h.1, h.0)
no_repeat_without {A = A} x (u ∷ us) vs h = go (no_repeat_without x us vs h.1)
  where
    not_head : ¬ (Contains (us ++ vs) x) → (u ≡ x) ⊎ Contains (us ++ vs) x → ⊥
    not_head k (inl e) = h.0 (subst (Contains (us ++ x ∷ vs)) (sym e) (Contains-append_right us (x ∷ vs) x (contains_head x vs)))
    not_head k (inr c) = k c

    go : NoRepeat (us ++ vs) × ¬ (Contains (us ++ vs) x) → NoRepeat (u ∷ us ++ vs) × ¬ (Contains (u ∷ us ++ vs) x)
    go (rest, k) = ((λ c. h.0 (contains_around x u us vs c), rest), λ c. not_head k (contains_cases u (us ++ vs) x c))

-- ---- counts

pub one_number : {A : Type 0} (P : A → Type 0) (n k : ℕ) → IsNumberOf P n → IsNumberOf P k → n ≡ k
one_number P n k h g =
    omega (arith, h.many, g.many, distinct_short h.all g.all h.once (λ x c. (g.these x).1 ((h.these x).0 c)), distinct_short g.all h.all g.once (λ x c. (h.these x).1 ((g.these x).0 c)))

pub number_none : {A : Type 0} (P : A → Type 0) → ((x : A) → ¬ (P x)) → IsNumberOf P 0
number_none P h = record { all = []; once = tt; these = λ x. (λ c. absurd (contains_none x c), λ p. absurd (h x p)); many = refl }

pub number_same : {A : Type 0} (P Q : A → Type 0) (n : ℕ) → ((x : A) → P x ↔ Q x) → IsNumberOf P n → IsNumberOf Q n
number_same P Q n e h = record { all = h.all; once = h.once; these = λ x. (λ c. (e x).0 ((h.these x).0 c), λ q. (h.these x).1 ((e x).1 q)); many = h.many }

pub number_more : {A : Type 0} (P : A → Type 0) (n : ℕ) (new : A) → ¬ (P new) → IsNumberOf P n → IsNumberOf (λ x. (new ≡ x) ⊎ P x) (n + 1)
number_more {A = A} P n new fresh h = record {
  all = new ∷ h.all;
  once = (λ c. fresh ((h.these new).0 c), h.once);
  these = λ x. (λ c. to x (contains_cases new h.all x c), from x);
  many = omega (arith, h.many);
}
  where
    to : (x : A) → (new ≡ x) ⊎ Contains h.all x → (new ≡ x) ⊎ P x
    to x (inl e) = inl e
    to x (inr c) = inr ((h.these x).0 c)

    from : (x : A) → (new ≡ x) ⊎ P x → Contains (new ∷ h.all) x
    from x (inl e) = subst (Contains (new ∷ h.all)) e (contains_head new h.all)
    from x (inr p) = contains_more new h.all x ((h.these x).1 p)

pub number_listed : {A : Type 0} (xs : List A) → NoRepeat xs → IsNumberOf (Contains xs) (length xs)
number_listed xs h = record { all = xs; once = h; these = λ x. (λ c. c, λ c. c); many = refl }

-- one less, without a member
pub number_without : {A : Type 0} (xs : List A) (x : A) → NoRepeat xs → Contains xs x → IsNumberOf (λ y. Contains xs y × (y ≢ x)) (length xs - 1)
number_without {A = A} xs x once c = go (split x xs c)
  where
    go : Split x xs → IsNumberOf (λ y. Contains xs y × (y ≢ x)) (length xs - 1)
    go s = record {
      all = s.before ++ s.after;
      once = rest.0;
      these = λ y. (λ k. (subst (λ w. Contains w y) (sym s.whole) (contains_around x y s.before s.after k), λ e. rest.1 (subst (Contains (s.before ++ s.after)) e k)), λ h. from y h.1 (contains_middle x y s.before s.after (subst (λ w. Contains w y) s.whole h.0)));
      many = omega (arith, ap length s.whole, length-append s.before (x ∷ s.after), length-append s.before s.after);
    }
      where
        rest : NoRepeat (s.before ++ s.after) × ¬ (Contains (s.before ++ s.after) x)
        rest = no_repeat_without x s.before s.after (subst NoRepeat s.whole once)

        from : (y : A) → (y ≢ x) → (x ≡ y) ⊎ Contains (s.before ++ s.after) y → Contains (s.before ++ s.after) y
        from y k (inl e) = absurd (k (sym e))
        from y k (inr h) = h

-- ---- things by their keys

pub contains_map : {X Y : Type 0} (f : X → Y) (xs : List X) (x : X) → Contains xs x → Contains (map f xs) (f x)
contains_map f [] x h = absurd (contains_none x h)
contains_map {X = X} {Y = Y} f (z ∷ xs) x h = go (contains_cases z xs x h) (contains_map f xs x)
  where
    go : (z ≡ x) ⊎ Contains xs x → (Contains xs x → Contains (map f xs) (f x)) → Contains (f z ∷ map f xs) (f x)
    go (inl e) rest = subst (λ w. Contains (f z ∷ map f xs) (f w)) e (contains_head (f z) (map f xs))
    go (inr k) rest = contains_more (f z) (map f xs) (f x) (rest k)

pub mapped_from : {X Y : Type 0} (f : X → Y) (xs : List X) (y : Y) → Contains (map f xs) y → (x : X) × Contains xs x × (f x ≡ y)
mapped_from f [] y h = absurd (contains_none y h)
mapped_from {X = X} {Y = Y} f (z ∷ xs) y h = go (contains_cases (f z) (map f xs) y h) (mapped_from f xs y)
  where
    go : (f z ≡ y) ⊎ Contains (map f xs) y → (Contains (map f xs) y → (x : X) × Contains xs x × (f x ≡ y)) → (x : X) × Contains (z ∷ xs) x × (f x ≡ y)
    go (inl e) rest = (z, contains_head z xs, e)
    go (inr k) rest = let r = rest k in (r.0, contains_more z xs r.0 r.1, r.2)

no_repeat_by : {X Y : Type 0} (f : X → Y) (xs : List X) → NoRepeat (map f xs) → NoRepeat xs
no_repeat_by f [] h = tt
no_repeat_by f (x ∷ xs) h = (λ c. h.0 (contains_map f xs x c), no_repeat_by f xs h.1)

pub contains_append : {A : Type 0} (xs ys : List A) (x : A) → Contains (xs ++ ys) x → Contains xs x ⊎ Contains ys x
contains_append [] ys x c = inr c
contains_append {A = A} (y ∷ xs) ys x c = go (contains_cases y (xs ++ ys) x c) (contains_append xs ys x)
  where
    go : (y ≡ x) ⊎ Contains (xs ++ ys) x → (Contains (xs ++ ys) x → Contains xs x ⊎ Contains ys x) → Contains (y ∷ xs) x ⊎ Contains ys x
    go (inl e) rest = inl (subst (Contains (y ∷ xs)) e (contains_head y xs))
    go (inr k) rest = more (rest k)
      where
        more : Contains xs x ⊎ Contains ys x → Contains (y ∷ xs) x ⊎ Contains ys x
        more (inl a) = inl (contains_more y xs x a)
        more (inr b) = inr b

pub no_repeat_append : {A : Type 0} (xs ys : List A) → NoRepeat xs → NoRepeat ys → ((x : A) → Contains xs x → ¬ (Contains ys x)) → NoRepeat (xs ++ ys)
no_repeat_append [] ys h g apart = g
no_repeat_append {A = A} (x ∷ xs) ys h g apart = (λ c. go (contains_append xs ys x c), no_repeat_append xs ys h.1 g (λ z c. apart z (contains_more x xs z c)))
  where
    go : Contains xs x ⊎ Contains ys x → ⊥
    go (inl c) = h.0 c
    go (inr c) = apart x (contains_head x xs) c

-- less the members of a list, and more by those of a list
pub number_less : {A : Type 0} (P : A → Type 0) (n : ℕ) (xs : List A) → NoRepeat xs → ((x : A) → Contains xs x → P x) → IsNumberOf P n → (length xs ≤ n) × IsNumberOf (λ x. P x × ¬ (Contains xs x)) (n - length xs)
number_less P n [] once sub h = (omega arith, subst (IsNumberOf (λ x. P x × ¬ (Contains [] x))) (omega arith) (number_same P (λ x. P x × ¬ (Contains [] x)) n (λ x. (λ p. (p, contains_none x), λ p. p.0)) h))
number_less {A = A} P n (x ∷ xs) once sub h =
    let in_all = (h.these x).1 (sub x (contains_head x xs)) in
    let some : 1 ≤ n = omega (arith, h.many, in_all.1) in
    let less = number_same (λ y. Contains h.all y × (y ≢ x)) (λ y. P y × (y ≢ x)) (length h.all - 1) (λ y. (λ p. ((h.these y).0 p.0, p.1), λ p. ((h.these y).1 p.0, p.1))) (number_without h.all x h.once in_all) in
    let rest = number_less (λ y. P y × (y ≢ x)) (length h.all - 1) xs once.1 (λ y c. (sub y (contains_more x xs y c), λ e. once.0 (subst (Contains xs) e c))) less in (
      omega (arith, rest.0, h.many, some),
      subst (IsNumberOf (λ y. P y × ¬ (Contains (x ∷ xs) y))) (omega (arith, h.many, some))
          (number_same (λ y. (P y × (y ≢ x)) × ¬ (Contains xs y)) (λ y. P y × ¬ (Contains (x ∷ xs) y)) (length h.all - 1 - length xs) (λ y. (λ p. (p.0.0, λ c. neither y p.0.1 p.1 (contains_cases x xs y c)), λ p. ((p.0, λ e. p.1 (subst (Contains (x ∷ xs)) (sym e) (contains_head x xs))), λ c. p.1 (contains_more x xs y c)))) rest.1),
    )
  where
    neither : (y : A) → (y ≢ x) → ¬ (Contains xs y) → (x ≡ y) ⊎ Contains xs y → ⊥
    neither y n k (inl e) = n (sym e)
    neither y n k (inr c) = k c

pub number_with : {A : Type 0} (P : A → Type 0) (n : ℕ) (xs : List A) → NoRepeat xs → ((x : A) → Contains xs x → ¬ (P x)) → IsNumberOf P n → IsNumberOf (λ x. Contains xs x ⊎ P x) (n + length xs)
number_with {A = A} P n xs once apart h = record {
  all = xs ++ h.all;
  once = no_repeat_append xs h.all once h.once (λ x c k. apart x c ((h.these x).0 k));
  these = λ x. (λ c. to x (contains_append xs h.all x c), from x);
  many = omega (arith, h.many, length-append xs h.all);
}
  where
    to : (x : A) → Contains xs x ⊎ Contains h.all x → Contains xs x ⊎ P x
    to x (inl c) = inl c
    to x (inr c) = inr ((h.these x).0 c)

    from : (x : A) → Contains xs x ⊎ P x → Contains (xs ++ h.all) x
    from x (inl c) = Contains-append_left xs h.all x c
    from x (inr p) = Contains-append_right xs h.all x ((h.these x).1 p)

-- things of P with these keys, in their order
record Picked {X Y : Type 0} (f : X → Y) (P : X → Type 0) (all : List Y) : Type 0 where
  things : List X
  same : map f things ≡ all
  good : (x : X) → Contains things x → P x

pick : {X Y : Type 0} (f : X → Y) (P : X → Type 0) (all : List Y) → ((y : Y) → Contains all y → (x : X) × P x × (f x ≡ y)) → Picked f P all
pick f P [] h = record { things = []; same = refl; good = λ x c. absurd (contains_none x c) }
pick {X = X} f P (y ∷ all) h =
    let (x, p, e) = h y (contains_head y all) in
    let rest = pick f P all (λ z c. h z (contains_more y all z c)) in
    record { things = x ∷ rest.things; same = ap₂ ◌∷◌ e rest.same; good = λ z c. go x rest.things p rest.good z (contains_cases x rest.things z c) }
  where
    go : (x : X) (xs : List X) → P x → ((z : X) → Contains xs z → P z) → (z : X) → (x ≡ z) ⊎ Contains xs z → P z
    go x xs p good z (inl e) = subst P e p
    go x xs p good z (inr c) = good z c

-- as many things as keys, where a key has one thing
pub number_by_key : {X Y : Type 0} (f : X → Y) (P : X → Type 0) (keys : List Y) → NoRepeat keys → ((x z : X) → P x → P z → f x ≡ f z → x ≡ z) → ((y : Y) → Contains keys y → (x : X) × P x × (f x ≡ y)) → ((x : X) → P x → Contains keys (f x)) → IsNumberOf P (length keys)
number_by_key {X = X} f P keys once one things key =
    let k = pick f P keys things in
    record {
      all = k.things;
      once = no_repeat_by f k.things (subst NoRepeat (sym k.same) once);
      these = λ x. (k.good x, λ p. found k.things k.good x p (mapped_from f k.things (f x) (subst (λ ys. Contains ys (f x)) (sym k.same) (key x p))));
      many = ap length (sym k.same) ∙ length-map k.things f;
    }
  where
    found : (things : List X) → ((x : X) → Contains things x → P x) → (x : X) → P x → (z : X) × Contains things z × (f z ≡ f x) → Contains things x
    found things good x p (z, c, e) = subst (Contains things) (one z x (good z c) p e) c

-- ---- what can be decided

pub contains_dec : {A : Type 0} (xs : List A) (x : A) → ((y : A) → Contains xs y → Dec (y ≡ x)) → Dec (Contains xs x)
contains_dec [] x same = no (contains_none x)
contains_dec {A = A} (y ∷ xs) x same = go (same y (contains_head y xs)) (contains_dec xs x (λ z c. same z (contains_more y xs z c)))
  where
    neither : (y ≢ x) → ¬ (Contains xs x) → (y ≡ x) ⊎ Contains xs x → ⊥
    neither k j (inl e) = k e
    neither k j (inr c) = j c

    go : Dec (y ≡ x) → Dec (Contains xs x) → Dec (Contains (y ∷ xs) x)
    go (yes e) d = yes (subst (Contains (y ∷ xs)) e (contains_head y xs))
    go (no k) (yes c) = yes (contains_more y xs x c)
    go (no k) (no j) = no (λ c. neither k j (contains_cases y xs x c))

-- the things of a list of which P holds, each once
record Chosen {A : Type 0} (xs : List A) (P : A → Type 0) : Type 0 where
  all : List A
  once : NoRepeat all
  sub : (x : A) → Contains all x → Contains xs x × P x
  every : (x : A) → Contains xs x → P x → Contains all x

chosen : {A : Type 0} (xs : List A) (P : A → Type 0) → ((x y : A) → Contains xs x → Contains xs y → Dec (x ≡ y)) → ((x : A) → Contains xs x → Dec (P x)) → Chosen xs P
chosen [] P same dec = record { all = []; once = tt; sub = λ x c. absurd (contains_none x c); every = λ x c. absurd (contains_none x c) }
chosen {A = A} (y ∷ xs) P same dec =
    go (chosen xs P (λ x z c k. same x z (contains_more y xs x c) (contains_more y xs z k)) (λ x c. dec x (contains_more y xs x c))) (dec y (contains_head y xs))
  where
    skip : (h : Chosen xs P) → (P y → Contains h.all y) → Chosen (y ∷ xs) P
    skip h there = record {
      all = h.all;
      once = h.once;
      sub = λ x c. (contains_more y xs x (h.sub x c).0, (h.sub x c).1);
      every = λ x c. which x (contains_cases y xs x c);
    }
      where
        which : (x : A) → (y ≡ x) ⊎ Contains xs x → P x → Contains h.all x
        which x (inl e) p = subst (Contains h.all) e (there (subst P (sym e) p))
        which x (inr c) p = h.every x c p

    take : (h : Chosen xs P) → P y → ¬ (Contains h.all y) → Chosen (y ∷ xs) P
    take h p fresh = record {
      all = y ∷ h.all;
      once = (fresh, h.once);
      sub = λ x c. back x (contains_cases y h.all x c);
      every = λ x c. which x (contains_cases y xs x c);
    }
      where
        back : (x : A) → (y ≡ x) ⊎ Contains h.all x → Contains (y ∷ xs) x × P x
        back x (inl e) = (subst (Contains (y ∷ xs)) e (contains_head y xs), subst P e p)
        back x (inr c) = (contains_more y xs x (h.sub x c).0, (h.sub x c).1)

        which : (x : A) → (y ≡ x) ⊎ Contains xs x → P x → Contains (y ∷ h.all) x
        which x (inl e) q = subst (Contains (y ∷ h.all)) e (contains_head y h.all)
        which x (inr c) q = contains_more y h.all x (h.every x c q)

    go : Chosen xs P → Dec (P y) → Chosen (y ∷ xs) P
    go h (no k) = skip h (λ p. absurd (k p))
    go h (yes p) = there (contains_dec h.all y (λ x c. same x y (contains_more y xs x (h.sub x c).0) (contains_head y xs)))
      where
        there : Dec (Contains h.all y) → Chosen (y ∷ xs) P
        there (yes c) = skip h (λ q. c)
        there (no k) = take h p k

-- what can be decided of each thing of a list, and holds of no other, holds of some number of things
pub number_decided : {A : Type 0} (xs : List A) (P : A → Type 0) → ((x y : A) → Contains xs x → Contains xs y → Dec (x ≡ y)) → ((x : A) → Contains xs x → Dec (P x)) → ((x : A) → P x → Contains xs x) → (n : ℕ) × IsNumberOf P n
number_decided {A = A} xs P same dec among = (length h.all, record { all = h.all; once = h.once; these = λ x. ((λ c. (h.sub x c).1), λ p. h.every x (among x p) p); many = refl })
  where
    h : Chosen xs P
    h = chosen xs P same dec
