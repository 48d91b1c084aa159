-- Chains of names: each name has one, a new link makes new ones, and they go through the root or do not.
use Rattle.std.proofs.Common.{◌≡◌, ◌≢◌, ℕ, ◌+◌, ◌≤◌, ◌⊎◌, inl, inr, List, [], ◌∷◌, ◌++◌, length, map, Contains, refl, sym, ap, ap₂, ◌∙◌, subst, arith, append_assoc, length-append}
use Rattle.std.proofs.lemmas.List.{length-map}
use Rattle.std.proofs.lemmas.List.Elements.{Contains-append_right}
use Rattle.pad_text.specs.declared.name.Name.{Name}
use Rattle.pad_graph.specs.Chain.{Link, top, IsChain, GoesThrough, IsLinkedName, IsAddedName}
use Rattle.pad_list.specs.Number.{NoRepeat}
use Rattle.pad_graph.specs.Graph.{LinksDiffer}
use Rattle.pad_list.proofs.CallerLemmas.{contains_head, contains_more, contains_cases, contains_none, distinct_short, contains_map, mapped_from}
use Rattle.pad_graph.proofs.Names.{name_dec}

abbrev pub link_name : Link → Name
link_name link = link.name

pub named : (links : List Link) (link : Link) → Contains links link → Contains (map link_name links) link.name
named links link c = contains_map link_name links link c

pub added_in : (links : List Link) (name : Name) → Contains (map link_name links) name → IsAddedName links name
added_in links name c = mapped_from link_name links name c

-- a name was added once
pub one_link : (links : List Link) (k l : Link) → LinksDiffer links → Contains links k → Contains links l → k.name ≡ l.name → k ≡ l
one_link [] k l d c e s = absurd (contains_none k c)
one_link (x ∷ links) k l d c e s = go (contains_cases x links k c) (contains_cases x links l e) (λ a b. one_link links k l d.1 a b s)
  where
    go : (x ≡ k) ⊎ Contains links k → (x ≡ l) ⊎ Contains links l → (Contains links k → Contains links l → k ≡ l) → k ≡ l
    go (inl p) (inl q) rest = sym p ∙ q
    go (inl p) (inr q) rest = absurd (d.0 (subst (Contains (map link_name links)) (sym s ∙ ap link_name (sym p)) (named links l q)))
    go (inr p) (inl q) rest = absurd (d.0 (subst (Contains (map link_name links)) (s ∙ ap link_name (sym q)) (named links k p)))
    go (inr p) (inr q) rest = rest p q

pub one_parent : (links : List Link) (name one other : Name) → LinksDiffer links → Contains links (record { name = name; parent = one }) → Contains links (record { name = name; parent = other }) → one ≡ other
one_parent links name one other d c e = ap (λ (l : Link). l.parent) (one_link links (record { name = name; parent = one }) (record { name = name; parent = other }) d c e refl)

-- a name has one chain
pub chain_unique : (base : Name) (links : List Link) (ns ms : List Name) → LinksDiffer links → IsChain base links ns → IsChain base links ms → top base ns ≡ top base ms → ns ≡ ms
chain_unique base links [] [] d h g e = refl
chain_unique base links [] (m ∷ ms) d h g e = absurd (g.1 (sym e))
chain_unique base links (n ∷ ns) [] d h g e = absurd (h.1 e)
chain_unique base links (n ∷ ns) (m ∷ ms) d h g e =
    let same = one_link links (record { name = n; parent = top base ns }) (record { name = m; parent = top base ms }) d h.0 g.0 e in
    ap₂ ◌∷◌ e (chain_unique base links ns ms d h.2 g.2 (ap (λ (l : Link). l.parent) same))

pub chain_more : (base : Name) (link : Link) (links : List Link) (ns : List Name) → IsChain base links ns → IsChain base (link ∷ links) ns
chain_more base link links [] h = tt
chain_more base link links (n ∷ ns) h = (contains_more link links (record { name = n; parent = top base ns }) h.0, h.1, chain_more base link links ns h.2)

pub chain_names : (base : Name) (links : List Link) (ns : List Name) (n : Name) → IsChain base links ns → Contains ns n → IsAddedName links n
chain_names base links [] n h c = absurd (contains_none n c)
chain_names base links (m ∷ ns) n h c = go (contains_cases m ns n c) (chain_names base links ns n h.2)
  where
    go : (m ≡ n) ⊎ Contains ns n → (Contains ns n → IsAddedName links n) → IsAddedName links n
    go (inl e) rest = (record { name = m; parent = top base ns }, h.0, e)
    go (inr k) rest = rest k

pub chain_below : (base : Name) (links : List Link) (above ns : List Name) → IsChain base links (above ++ ns) → IsChain base links ns
chain_below base links [] ns h = h
chain_below base links (a ∷ above) ns h = chain_below base links above ns h.2

-- the new link on a chain: `below` is the chain of its parent, of old links alone
pub record OnChain (base : Name) (links : List Link) (link : Link) (ns : List Name) : Type 0 where
  pub above : List Name
  pub below : List Name
  pub whole : ns ≡ above ++ link.name ∷ below
  pub parent : top base below ≡ link.parent
  pub chain : IsChain base links below

pub chain_new : (base : Name) (links : List Link) (link : Link) (ns : List Name) → IsChain base (link ∷ links) ns → IsChain base links ns ⊎ OnChain base links link ns
chain_new base links link [] h = inl tt
chain_new base links link (n ∷ ns) h = go (contains_cases link links (record { name = n; parent = top base ns }) h.0) (chain_new base links link ns h.2)
  where
    go : (link ≡ record { name = n; parent = top base ns }) ⊎ Contains links (record { name = n; parent = top base ns }) → IsChain base links ns ⊎ OnChain base links link ns → IsChain base links (n ∷ ns) ⊎ OnChain base links link (n ∷ ns)
    go (inr c) (inl k) = inl (c, h.1, k)
    go (inl e) (inl k) = inr (record { above = []; below = ns; whole = ap (λ (l : Link). l.name ∷ ns) (sym e); parent = ap (λ (l : Link). l.parent) (sym e); chain = k })
    go c (inr o) = inr (record { above = n ∷ o.above; below = o.below; whole = ap (λ x. n ∷ x) o.whole; parent = o.parent; chain = o.chain })

-- of two ends of a list, the longer one ends in the shorter one
pub two_ends : {A : Type 0} (u v r q : List A) → u ++ r ≡ v ++ q → length r ≤ length q → (w : List A) × (q ≡ w ++ r)
two_ends u [] r q e h = (u, sym e)
two_ends [] (y ∷ v) r q e h = absurd (omega (arith, h, ap length e, length-append v q))
two_ends {A = A} (x ∷ u) (y ∷ v) r q e h = two_ends u v r q (tail_same x y (u ++ r) (v ++ q) e) h
  where
    tail_same : (x y : A) (s t : List A) → x ∷ s ≡ y ∷ t → s ≡ t
    tail_same x y s t e = cc

pub through_trans : (r q p : List Name) → GoesThrough r q → GoesThrough q p → GoesThrough r p
through_trans r q p h g = (g.0 ++ h.0, g.1 ∙ ap (λ x. g.0 ++ x) h.1 ∙ sym (append_assoc g.0 h.0 r))

-- a chain with a new link on it goes through the root exactly where its parent's chain does
module _ (base : Name) (links : List Link) (link : Link) (root ns : List Name) (chain : IsChain base links root) (new : ¬ (IsAddedName links link.name)) (o : OnChain base links link ns) where
  sides : (n k : ℕ) → (n ≤ k) ⊎ (k + 1 ≤ n)
  sides n k = grind arith

  pub through_down : GoesThrough root ns → GoesThrough root o.below
  through_down (w, e) = go (sides (length root) (length o.below))
    where
      joined : w ++ root ≡ (o.above ++ link.name ∷ []) ++ o.below
      joined = sym e ∙ o.whole ∙ sym (append_assoc o.above (link.name ∷ []) o.below)

      inside : (u : List Name) × (root ≡ u ++ link.name ∷ o.below) → ⊥
      inside (u, s) = new (chain_names base links root link.name chain (subst (λ x. Contains x link.name) (sym s) (Contains-append_right u (link.name ∷ o.below) link.name (contains_head link.name o.below))))

      go : (length root ≤ length o.below) ⊎ (length o.below + 1 ≤ length root) → GoesThrough root o.below
      go (inl h) = two_ends w (o.above ++ link.name ∷ []) root o.below joined h
      go (inr h) = absurd (inside (two_ends o.above w (link.name ∷ o.below) root (sym o.whole ∙ e) (omega (arith, h))))

  pub through_up : GoesThrough root o.below → GoesThrough root ns
  through_up (a, e) = (o.above ++ link.name ∷ a, o.whole ∙ ap (λ x. o.above ++ link.name ∷ x) e ∙ sym (append_assoc o.above (link.name ∷ a) root))

  -- no chain of old links ends where it does
  pub not_before : LinksDiffer (link ∷ links) → IsChain base (link ∷ links) ns → (height : ℕ) → ¬ (IsLinkedName base links (top base ns) height)
  not_before d h height (ms, old, e, high) =
      let same : ms ≡ ns = chain_unique base (link ∷ links) ms ns d (chain_more base link links ms old) h e in
      new (chain_names base links ms link.name old (subst (λ x. Contains x link.name) (sym (same ∙ o.whole)) (Contains-append_right o.above (link.name ∷ o.below) link.name (contains_head link.name o.below))))

-- no name stands twice on a chain, so it has at most as many names as were added
pub chain_once : (base : Name) (links : List Link) (ns : List Name) → LinksDiffer links → IsChain base links ns → NoRepeat ns
chain_once base links [] d h = tt
chain_once base links (n ∷ ns) d h = (λ c. go c, chain_once base links ns d h.2)
  where
    part : (ns : List Name) → Contains ns n → (a : List Name) × (b : List Name) × (ns ≡ a ++ n ∷ b)
    part [] c = absurd (contains_none n c)
    part (m ∷ ns) c = which (contains_cases m ns n c) (part ns)
      where
        which : (m ≡ n) ⊎ Contains ns n → (Contains ns n → (a : List Name) × (b : List Name) × (ns ≡ a ++ n ∷ b)) → (a : List Name) × (b : List Name) × (m ∷ ns ≡ a ++ n ∷ b)
        which (inl e) rest = ([], ns, ap (λ x. x ∷ ns) e)
        which (inr k) rest = let r = rest k in (m ∷ r.0, r.1, ap (λ x. m ∷ x) r.2)

    go : Contains ns n → ⊥
    go c =
        let (a, b, e) = part ns c in
        let same = chain_unique base links (n ∷ ns) (n ∷ b) d h (chain_below base links a (n ∷ b) (subst (IsChain base links) e h.2)) refl in
        omega (arith, ap length same, ap length e, length-append a (n ∷ b))

pub chain_short : (base : Name) (links : List Link) (ns : List Name) → LinksDiffer links → IsChain base links ns → length ns ≤ length links
chain_short base links ns d h =
    omega (arith, distinct_short ns (map link_name links) (chain_once base links ns d h) (λ n c. let a = chain_names base links ns n h c in subst (Contains (map link_name links)) a.2 (named links a.0 a.1)), length-map links link_name)

-- whether a chain goes through the root can be decided
pub through_dec : (root ns : List Name) → GoesThrough root ns ⊎ (¬ (GoesThrough root ns))
through_dec root ns = which ns (same root ns)
  where
    same : (xs ys : List Name) → (xs ≡ ys) ⊎ (xs ≢ ys)
    same [] [] = inl refl
    same [] (y ∷ ys) = inr (λ e. cc)
    same (x ∷ xs) [] = inr (λ e. cc)
    same (x ∷ xs) (y ∷ ys) = both (name_dec x y) (same xs ys)
      where
        both : (x ≡ y) ⊎ (x ≢ y) → (xs ≡ ys) ⊎ (xs ≢ ys) → (x ∷ xs ≡ y ∷ ys) ⊎ (x ∷ xs ≢ y ∷ ys)
        both (inl e) (inl f) = inl (ap₂ ◌∷◌ e f)
        both (inl e) (inr f) = inr (λ g. f cc)
        both (inr e) f = inr (λ g. e cc)

    which : (ns : List Name) → (root ≡ ns) ⊎ (root ≢ ns) → GoesThrough root ns ⊎ (¬ (GoesThrough root ns))
    which ns (inl e) = inl ([], sym e)
    which [] (inr n) = inr (λ t. nothing t.0 t.1)
      where
        nothing : (a : List Name) → [] ≡ a ++ root → ⊥
        nothing [] e = n (sym e)
        nothing (x ∷ a) e = cc
    which (m ∷ ns) (inr n) = up (which ns (same root ns))
      where
        down : (a : List Name) → m ∷ ns ≡ a ++ root → GoesThrough root ns
        down [] e = absurd (n (sym e))
        down (x ∷ a) e = (a, cc)

        up : GoesThrough root ns ⊎ (¬ (GoesThrough root ns)) → GoesThrough root (m ∷ ns) ⊎ (¬ (GoesThrough root (m ∷ ns)))
        up (inl t) = inl (m ∷ t.0, ap (λ x. m ∷ x) t.1)
        up (inr f) = inr (λ t. f (down t.0 t.1))
