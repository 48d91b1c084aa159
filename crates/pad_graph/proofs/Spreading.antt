-- What hangs on a name, found one level after another.
use Rattle.std.proofs.Common.{◌≡◌, ◌≢◌, ℕ, zero, suc, ◌+◌, ◌<◌, ◌≤◌, ◌⊎◌, inl, inr, List, [], ◌∷◌, ◌++◌, length, map, take, Bool, true, false, cond, Contains, get_or, is_eq, refl, sym, ap, ◌∙◌, subst, arith, length-append}
use Rattle.std.proofs.lemmas.List.{length-map, map-append}
use Rattle.std.proofs.lemmas.List.Elements.{Contains-append_left, Contains-append_right, Contains-push_cases}
use Rattle.pad_text.specs.declared.name.Name.{Name}
use Rattle.pad_graph.specs.declared.linking.Linking.{Linking}
use Rattle.pad_graph.specs.Chain.{top}
use Rattle.pad_list.specs.Number.{NoRepeat}
use Rattle.pad_graph.specs.Inside.Hanging.{linkings_of, IsBranch, IsForest, Hangs, AreHanging}
use Rattle.pad_list.proofs.CallerLemmas.{contains_none, contains_head, contains_more, contains_cases, distinct_short, contains_map, mapped_from, no_repeat_front, contains_append, no_repeat_append}
use Rattle.pad_graph.proofs.Names.{name_same, name_apart}
use Rattle.pad_graph.specs.State.{name_cmp}

abbrev pub name_of : Linking → Name
name_of linking = linking.name

-- ---- places

pub record At {A : Type 0} (xs : List A) (k : ℕ) (x : A) : Type 0 where
  pub after : List A
  pub whole : xs ≡ take k xs ++ x ∷ after
  pub within : k < length xs
  pub next : (ys : List A) → take (suc k) (xs ++ ys) ≡ take k xs ++ x ∷ []

pub at_place : {A : Type 0} (xs : List A) (k : ℕ) (d : A) → k < length xs → At xs k (get_or xs k d)
at_place [] k d h = absurd (omega (arith, h))
at_place (y ∷ xs) zero d h = record { after = xs; whole = refl; within = h; next = λ ys. refl }
at_place (y ∷ xs) (suc k) d h =
    let r = at_place xs k d (omega (arith, h)) in
    record { after = r.after; whole = ap (λ zs. y ∷ zs) r.whole; within = h; next = λ ys. ap (λ zs. y ∷ zs) (r.next ys) }

pub at_contains : {A : Type 0} (xs : List A) (k : ℕ) (x : A) → At xs k x → Contains xs x
at_contains xs k x a = subst (λ ls. Contains ls x) (sym a.whole) (Contains-append_right (take k xs) (x ∷ a.after) x (contains_head x a.after))

-- ---- linkings of names

module _ (stop : Name) (height : ℕ) where
  abbrev pub one : Name → Linking
  one n = record { height = height; name = n }

  pub from_names : (ns : List Name) (l : Linking) → Contains (linkings_of stop height ns) l → Contains ns l.name × (l.name ≢ stop) × (l.height ≡ height)
  from_names [] l c = absurd (contains_none l c)
  from_names (n ∷ ns) l c = go (is_eq (name_cmp n stop)) refl c (from_names ns l)
    where
      more : Contains ns l.name × (l.name ≢ stop) × (l.height ≡ height) → Contains (n ∷ ns) l.name × (l.name ≢ stop) × (l.height ≡ height)
      more (k, a, h) = (contains_more n ns l.name k, a, h)

      here : is_eq (name_cmp n stop) ≡ false → (one n ≡ l) ⊎ Contains (linkings_of stop height ns) l → (Contains (linkings_of stop height ns) l → Contains ns l.name × (l.name ≢ stop) × (l.height ≡ height)) → Contains (n ∷ ns) l.name × (l.name ≢ stop) × (l.height ≡ height)
      here t (inl e) rest = subst (λ (z : Linking). Contains (n ∷ ns) z.name × (z.name ≢ stop) × (z.height ≡ height)) e (contains_head n ns, name_apart n stop t, refl)
      here t (inr k) rest = more (rest k)

      go : (t : Bool) → is_eq (name_cmp n stop) ≡ t → Contains (cond {A = List Linking} t (linkings_of stop height ns) (one n ∷ linkings_of stop height ns)) l → (Contains (linkings_of stop height ns) l → Contains ns l.name × (l.name ≢ stop) × (l.height ≡ height)) → Contains (n ∷ ns) l.name × (l.name ≢ stop) × (l.height ≡ height)
      go true t c rest = more (rest c)
      go false t c rest = here t (contains_cases (one n) (linkings_of stop height ns) l c) rest

  pub to_linkings : (ns : List Name) (n : Name) → Contains ns n → n ≢ stop → Contains (linkings_of stop height ns) (one n)
  to_linkings [] n c a = absurd (contains_none n c)
  to_linkings (m ∷ ns) n c a = go (is_eq (name_cmp m stop)) refl (contains_cases m ns n c) (λ k. to_linkings ns n k a)
    where
      go : (t : Bool) → is_eq (name_cmp m stop) ≡ t → (m ≡ n) ⊎ Contains ns n → (Contains ns n → Contains (linkings_of stop height ns) (one n)) → Contains (cond {A = List Linking} t (linkings_of stop height ns) (one m ∷ linkings_of stop height ns)) (one n)
      go true t (inl e) rest = absurd (a (sym e ∙ name_same m stop t))
      go true t (inr k) rest = rest k
      go false t (inl e) rest = subst (λ z. Contains (one m ∷ linkings_of stop height ns) (one z)) e (contains_head (one m) (linkings_of stop height ns))
      go false t (inr k) rest = contains_more (one m) (linkings_of stop height ns) (one n) (rest k)

  pub linkings_once : (ns : List Name) → NoRepeat ns → NoRepeat (map name_of (linkings_of stop height ns))
  linkings_once [] h = tt
  linkings_once (n ∷ ns) h = go (is_eq (name_cmp n stop)) (linkings_once ns h.1)
    where
      apart : ¬ (Contains (map name_of (linkings_of stop height ns)) n)
      apart c = let r = mapped_from name_of (linkings_of stop height ns) n c in h.0 (subst (Contains ns) r.2 (from_names ns r.0 r.1).0)

      go : (t : Bool) → NoRepeat (map name_of (linkings_of stop height ns)) → NoRepeat (map name_of (cond {A = List Linking} t (linkings_of stop height ns) (one n ∷ linkings_of stop height ns)))
      go true rest = rest
      go false rest = (apart, rest)

-- ---- the search

-- so far: the first `at` of those found have passed on what hangs on them
pub record Spreads (children : Name → List Name) (first : Linking) (stop : Name) (found : List Linking) (at : ℕ) : Type 0 where
  pub once : NoRepeat (map name_of found)
  pub each : (l : Linking) → Contains found l → Hangs children first stop l
  pub start : Contains found first
  pub closed : (l : Linking) (n : Name) → Contains (take at found) l → Contains (children l.name) n → n ≢ stop → Contains found (record { height = l.height + 1; name = n })
  pub from : (l : Linking) → Contains found l → (l ≡ first) ⊎ ((p : Linking) × Contains (take at found) p × Contains (children p.name) l.name)
  pub passed : at ≤ length found

module _ (children : Name → List Name) (first : Linking) (stop : Name) (all : List Name) (limit : ℕ) (f : IsForest children first.name stop all limit) where
  pub spreads_start : (found : List Linking) → found ≡ first ∷ [] → Spreads children first stop found 0
  spreads_start found e = subst (λ ls. Spreads children first stop ls 0) (sym e) (record {
    once = (λ c. contains_none first.name c, tt);
    each = λ l c. hangs l (contains_cases first [] l c);
    start = contains_head first [];
    closed = λ l n c k a. absurd (contains_none l c);
    from = λ l c. inl (is l (contains_cases first [] l c));
    passed = omega arith;
  })
    where
      is : (l : Linking) → (first ≡ l) ⊎ Contains [] l → l ≡ first
      is l (inl e) = sym e
      is l (inr c) = absurd (contains_none l c)

      hangs : (l : Linking) → (first ≡ l) ⊎ Contains [] l → Hangs children first stop l
      hangs l c = let e = is l c in ([], tt, ap name_of (sym e), ap (λ (z : Linking). z.height) e ∙ omega arith)

  module _ (found : List Linking) (at : ℕ) (s : Spreads children first stop found at) (p : Linking) (here : At found at p) where
    abbrev pub new : List Linking
    new = linkings_of stop (p.height + 1) (children p.name)

    in_p : Contains found p
    in_p = at_contains found at p here

    took : take (suc at) (found ++ new) ≡ take at found ++ p ∷ []
    took = here.next new

    -- a name passed before is not that of p
    passed_before : (q : Linking) → Contains (take at found) q → q.name ≢ p.name
    passed_before q c e =
        let once = subst (λ ls. NoRepeat (map name_of ls)) here.whole s.once in
        let split = subst NoRepeat (map-append name_of (take at found) (p ∷ here.after)) once in
        no_repeat_front (map name_of (take at found)) p.name (map name_of here.after) split (subst (Contains (map name_of (take at found))) e (contains_map name_of (take at found) q c))

    fresh : (n : Name) → Contains (map name_of found) n → ¬ (Contains (map name_of new) n)
    fresh n c k =
        let l = mapped_from name_of found n c in
        let m = mapped_from name_of new n k in
        let child = subst (Contains (children p.name)) (m.2 ∙ sym l.2) (from_names stop (p.height + 1) (children p.name) m.0 m.1).0 in
        go l.0 child (s.from l.0 l.1)
      where
        go : (l : Linking) → Contains (children p.name) l.name → (l ≡ first) ⊎ ((q : Linking) × Contains (take at found) q × Contains (children q.name) l.name) → ⊥
        go l child (inl e) =
            let (ns, branch, named, high) = s.each p in_p in
            f.lowest ns branch (subst (λ x. Contains (children x) first.name) (sym named) (subst (λ (z : Linking). Contains (children p.name) z.name) e child))
        go l child (inr (q, c, k)) = passed_before q c (f.one_parent q.name p.name l.name k child)

    pub spreads_on : Spreads children first stop (found ++ new) (suc at)
    spreads_on = record {
      once = subst NoRepeat (sym (map-append name_of found new)) (no_repeat_append (map name_of found) (map name_of new) s.once (linkings_once stop (p.height + 1) (children p.name) (f.once p.name)) fresh);
      each = λ l c. each l (contains_append found new l c);
      start = Contains-append_left found new first s.start;
      closed = λ l n c k a. closed l n k a (Contains-push_cases (take at found) p l (subst (λ ls. Contains ls l) took c));
      from = λ l c. from l (contains_append found new l c);
      passed = omega (arith, here.within, length-append found new);
    }
      where
        above : (l : Linking) → Contains (children p.name) l.name × (l.name ≢ stop) × (l.height ≡ p.height + 1) → Hangs children first stop p → Hangs children first stop l
        above l (k, a, h) (ns, branch, named, high) = (l.name ∷ ns, (subst (λ x. Contains (children x) l.name) (sym named) k, a, branch), refl, omega (arith, h, high))

        each : (l : Linking) → Contains found l ⊎ Contains new l → Hangs children first stop l
        each l (inl c) = s.each l c
        each l (inr c) = above l (from_names stop (p.height + 1) (children p.name) l c) (s.each p in_p)

        closed : (l : Linking) (n : Name) → Contains (children l.name) n → n ≢ stop → Contains (take at found) l ⊎ (p ≡ l) → Contains (found ++ new) (record { height = l.height + 1; name = n })
        closed l n k a (inl c) = Contains-append_left found new (record { height = l.height + 1; name = n }) (s.closed l n c k a)
        closed l n k a (inr e) =
            Contains-append_right found new (record { height = l.height + 1; name = n })
            (subst (λ (z : Linking). Contains new (record { height = z.height + 1; name = n })) e (to_linkings stop (p.height + 1) (children p.name) n (subst (λ (z : Linking). Contains (children z.name) n) (sym e) k) a))

        up : (l : Linking) → Contains (take at found) l → Contains (take (suc at) (found ++ new)) l
        up l c = subst (λ ls. Contains ls l) (sym took) (Contains-append_left (take at found) (p ∷ []) l c)

        lift : (l : Linking) → (l ≡ first) ⊎ ((q : Linking) × Contains (take at found) q × Contains (children q.name) l.name) → (l ≡ first) ⊎ ((q : Linking) × Contains (take (suc at) (found ++ new)) q × Contains (children q.name) l.name)
        lift l (inl e) = inl e
        lift l (inr (q, c, k)) = inr (q, up q c, k)

        from : (l : Linking) → Contains found l ⊎ Contains new l → (l ≡ first) ⊎ ((q : Linking) × Contains (take (suc at) (found ++ new)) q × Contains (children q.name) l.name)
        from l (inl c) = lift l (s.from l c)
        from l (inr c) = inr (p, subst (λ ls. Contains ls p) (sym took) (Contains-append_right (take at found) (p ∷ []) p (contains_head p [])), (from_names stop (p.height + 1) (children p.name) l c).0)

  module _ (found : List Linking) (at : ℕ) (s : Spreads children first stop found at) where
    few : length found ≤ limit
    few = omega (arith, distinct_short (map name_of found) all s.once (λ n c. in_all n (mapped_from name_of found n c)), length-map found name_of, f.few)
      where
        in_all : (n : Name) → (l : Linking) × Contains found l × (l.name ≡ n) → Contains all n
        in_all n (l, c, e) = let (ns, branch, named, high) = s.each l c in subst (Contains all) (named ∙ e) (f.among ns branch)

    take_all : {A : Type 0} (xs : List A) (k : ℕ) → length xs ≤ k → take k xs ≡ xs
    take_all [] zero h = refl
    take_all [] (suc k) h = refl
    take_all (x ∷ xs) zero h = absurd (omega (arith, h))
    take_all (x ∷ xs) (suc k) h = ap (λ ys. x ∷ ys) (take_all xs k (omega (arith, h)))

    pub spreads_done : length found ≤ at → AreHanging children first stop found
    spreads_done end = record { once = s.once; each = s.each; every = every }
      where
        every : (names : List Name) → IsBranch children first.name stop names → Contains found (record { height = first.height + length names; name = top first.name names })
        every [] b = subst (λ h. Contains found (record { height = h; name = first.name })) (omega arith) s.start
        every (n ∷ names) (k, a, b) =
            let below = every names b in
            subst (λ h. Contains found (record { height = h; name = n })) (omega arith)
            (s.closed (record { height = first.height + length names; name = top first.name names }) n (subst (λ ls. Contains ls (record { height = first.height + length names; name = top first.name names })) (sym (take_all found at end)) below) k a)

    pub spreads_end : limit ≤ at → AreHanging children first stop found
    spreads_end end = spreads_done (omega (arith, few, end))

-- heights grow by one a turn
pub low_on : (height : ℕ) (found : List Linking) (at : ℕ) (p : Linking) (stop : Name) (ns : List Name) → ((l : Linking) → Contains found l → l.height ≤ height + at) → Contains found p → (l : Linking) → Contains (found ++ linkings_of stop (p.height + 1) ns) l → l.height ≤ height + suc at
low_on height found at p stop ns low here l c = go (contains_append found (linkings_of stop (p.height + 1) ns) l c)
  where
    go : Contains found l ⊎ Contains (linkings_of stop (p.height + 1) ns) l → l.height ≤ height + suc at
    go (inl k) = omega (arith, low l k)
    go (inr k) = omega (arith, low p here, (from_names stop (p.height + 1) ns l k).2)

pub low_start : (first : Linking) (found : List Linking) → found ≡ first ∷ [] → (l : Linking) → Contains found l → l.height ≤ first.height + 0
low_start first found e l c = go (contains_cases first [] l (subst (λ ls. Contains ls l) e c))
  where
    go : (first ≡ l) ⊎ Contains [] l → l.height ≤ first.height + 0
    go (inl s) = omega (arith, ap (λ (z : Linking). z.height) s)
    go (inr k) = absurd (contains_none l k)
