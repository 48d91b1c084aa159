-- A root that rises: what is not linked through it is gone.
use Rattle.std.proofs.Common.{◌≡◌, ◌≢◌, ◌||◌, ℕ, ◌+◌, ◌-◌, ◌≤◌, ◌⊎◌, inl, inr, List, [], ◌∷◌, ◌++◌, length, map, Bool, true, false, cond, Option, Some, None, Contains, is_eq, refl, sym, ap, ◌∙◌, subst, arith, append_assoc, length-append}
use Rattle.std.specs.Option.{option_map}
use Rattle.std.proofs.lemmas.List.{length-map}
use Rattle.std.proofs.lemmas.List.Elements.{Contains-append_right}
use Rattle.pad_text.specs.declared.name.Name.{Name}
use Rattle.pad_graph.specs.declared.linking.Linking.{Linking}
use Rattle.pad_graph.specs.declared.last.Last.{Last}
use Rattle.pad_graph.specs.declared.node.Node.{Node}
use Rattle.pad_graph.specs.declared.node.Mark.TheVariants as variant
use Rattle.pad_graph.specs.declared.standing.Standing.{Standing}
use Rattle.pad_graph.specs.declared.standing.Standing.TheVariants.{Unknown, Waiting, Linked, Gone}
use Rattle.pad_graph.specs.Chain.{Link, top, IsChain, GoesThrough, IsLinkedName, IsKeptName, IsGoneName, IsWaitingName}
use Rattle.pad_list.specs.Number.{NoRepeat, IsNumberOf}
use Rattle.pad_graph.specs.Inside.Tables.{with_standing, is_among, height_in, height_of_standing}
use Rattle.pad_graph.specs.State.{State, standing, standing_of, IsHeld, name_cmp}
use Rattle.pad_graph.specs.Graph.{IsStanding, IsKept, AreChildren, Stands, AreDropped, IsDropped}
use Rattle.pad_graph.specs.Inside.Hanging.{IsBranch, IsForest, AreHanging}
use Rattle.pad_graph.specs.Inside.Steps.{Drops}
use Rattle.pad_list.proofs.CallerLemmas.{contains_head, contains_more, contains_cases, contains_none, contains_map, mapped_from, number_none, number_same, number_less, number_listed, number_without}
use Rattle.pad_graph.proofs.Names.{name_equal, name_differs}
use Rattle.pad_graph.proofs.Spreading.{name_of}
use Rattle.pad_graph.proofs.Chains.{one_parent, chain_unique, chain_short, through_trans, through_dec}
use Rattle.pad_graph.proofs.Marked.{contains_dec, marked_out, marked_in, marked_parent}
use Rattle.pad_graph.proofs.Branches.{top_over, branch_chain}
use Rattle.pad_graph.proofs.Growth.{new_not_linked, has_node}

among_in : (xs : List Linking) (q : Name) → Contains (map name_of xs) q → is_among xs q ≡ true
among_in [] q c = absurd (contains_none q c)
among_in (x ∷ xs) q c = go (contains_cases x.name (map name_of xs) q c) (among_in xs q)
  where
    go : (x.name ≡ q) ⊎ Contains (map name_of xs) q → (Contains (map name_of xs) q → is_among xs q ≡ true) → is_eq (name_cmp x.name q) || is_among xs q ≡ true
    go (inl e) rest = ap (λ t. t || is_among xs q) (name_equal x.name q e)
    go (inr k) rest = right (is_eq (name_cmp x.name q)) (rest k)
      where
        right : (t : Bool) → is_among xs q ≡ true → t || is_among xs q ≡ true
        right true e = refl
        right false e = e

among_out : (xs : List Linking) (q : Name) → ¬ (Contains (map name_of xs) q) → is_among xs q ≡ false
among_out [] q n = refl
among_out (x ∷ xs) q n =
    ap (λ t. t || is_among xs q) (name_differs x.name q (λ e. n (subst (Contains (x.name ∷ map name_of xs)) e (contains_head x.name (map name_of xs)))))
    ∙ among_out xs q (λ c. n (contains_more x.name (map name_of xs) q c))

not_stop : (children : Name → List Name) (first stop : Name) (names : List Name) (x : Name) → IsBranch children first stop names → Contains names x → x ≢ stop
not_stop children first stop [] x b c = absurd (contains_none x c)
not_stop children first stop (n ∷ names) x (k, a, b) c = go (contains_cases n names x c) (not_stop children first stop names x b)
  where
    go : (n ≡ x) ⊎ Contains names x → (Contains names x → x ≢ stop) → x ≢ stop
    go (inl e) rest = λ s. a (e ∙ s)
    go (inr d) rest = rest d

same_front : {A : Type 0} (u v r : List A) → u ++ r ≡ v ++ r → u ≡ v
same_front [] [] r e = refl
same_front [] (y ∷ v) r e = absurd (omega (arith, ap length e, length-append v r))
same_front (x ∷ u) [] r e = absurd (omega (arith, ap length e, length-append u r))
same_front {A = A} (x ∷ u) (y ∷ v) r e = join (head x y (u ++ r) (v ++ r) e) (same_front u v r (tail x y (u ++ r) (v ++ r) e))
  where
    head : (a b : A) (s t : List A) → a ∷ s ≡ b ∷ t → a ≡ b
    head a b s t e = cc

    tail : (a b : A) (s t : List A) → a ∷ s ≡ b ∷ t → s ≡ t
    tail a b s t e = cc

    join : x ≡ y → u ≡ v → x ∷ u ≡ y ∷ v
    join e f = cc

module _ (old : State) (base : Name) (links : List Link) (below : List Name) (h : Stands old base links below) where
  root_linked : IsLinkedName base links old.root (length below)
  root_linked = (below, h.rooted, sym h.at_root, refl)

  -- the height in the root's node
  pub root_height : height_in (old.node old.root) ≡ length below
  root_height = go (standing old old.root) (h.standings old.root) (old.node old.root) refl
    where
      by : (s : Standing) → IsStanding base links below old.root s → height_of_standing s ≡ length below
      by Unknown new = absurd (new_not_linked base links old.root new (length below) root_linked)
      by Waiting w = absurd (w.1 (length below) root_linked)
      by (Linked height) (c, chain, e, q, t) = q ∙ ap length (chain_unique base links c below h.differ chain h.rooted (e ∙ h.at_root))
      by (Gone height) (c, chain, e, q, t) = absurd (t ([], chain_unique base links c below h.differ chain h.rooted (e ∙ h.at_root)))

      go : (s : Standing) → IsStanding base links below old.root s → (o : Option Node) → standing_of o ≡ s → height_in o ≡ length below
      go s i None e = by Unknown (subst (IsStanding base links below old.root) (sym e) i)
      go s i (Some node) e = by node.standing (subst (IsStanding base links below old.root) (sym e) i)

  pub root_small : length below ≤ old.known
  root_small = omega (arith, chain_short base links below h.differ h.rooted, h.known)

  module _ (names : List Name) (root : Name) (chain : IsChain base links names) (at : top base names ≡ root) (held : IsHeld (standing old root)) where
    pub through : GoesThrough below names
    through = go (standing old root) (h.standings root) held
      where
        go : (s : Standing) → IsStanding base links below root s → IsHeld s → GoesThrough below names
        go Unknown i held = absurd held
        go Waiting i held = absurd held
        go (Linked height) (c, one, e, q, t) held = subst (GoesThrough below) (chain_unique base links c names h.differ one chain (e ∙ sym at)) t
        go (Gone height) i held = absurd held

    -- ---- the same root again: nothing is dropped

    module _ (same : root ≡ old.root) where
      pub one_root : names ≡ below
      one_root = chain_unique base links names below h.differ chain h.rooted (at ∙ same ∙ h.at_root)

      pub none_dropped : AreDropped base links below names []
      none_dropped = record { once = tt; these = λ l. (λ c. absurd (contains_none l c), λ d. absurd (both l d)) }
        where
          both : (l : Linking) → IsKeptName base links below l.name l.height × IsGoneName base links names l.name l.height → ⊥
          both l ((c, one, e, q, t), (c2, two, e2, q2, t2)) = t2 (subst (λ (r : List Name). GoesThrough r c2) (sym one_root) (subst (GoesThrough below) (chain_unique base links c c2 h.differ one two (e ∙ sym e2)) t))

      pub no_message : IsNumberOf (IsDropped base links below names) 0
      no_message = number_none (IsDropped base links below names) (λ x d. contains_none (record { height = d.1.0; name = x }) ((none_dropped.these (record { height = d.1.0; name = x })).1 (d.1.1, d.1.2)))

    -- ---- another root

    module _ (rises : root ≢ old.root) where
      -- the root's name on a branch from the old root is left out
      on_chain : (ns : List Name) → IsBranch old.children old.root root ns → IsChain base links (ns ++ below)
      on_chain ns b = branch_chain old base links below h old.root root ns below links (λ l c. c) b h.rooted (sym h.at_root)

      top_on : (ns : List Name) → top base (ns ++ below) ≡ top old.root ns
      top_on ns = top_over base old.root ns below (sym h.at_root)

      not_through : (ns : List Name) → IsBranch old.children old.root root ns → ¬ (GoesThrough names (ns ++ below))
      not_through ns b (a, e) = go through.0 through.1 names at chain refl
        where
          go : (above : List Name) → names ≡ above ++ below → (all : List Name) → top base all ≡ root → IsChain base links all → all ≡ names → ⊥
          go [] whole all t c s = rises (sym t ∙ ap (top base) (s ∙ whole) ∙ sym h.at_root)
          go (x ∷ above) whole all t c s =
              let front : ns ≡ a ++ x ∷ above = same_front ns (a ++ x ∷ above) below (e ∙ ap (λ z. a ++ z) whole ∙ sym (append_assoc a (x ∷ above) below)) in
              let last : x ≡ root = ap (top base) (sym whole ∙ sym s) ∙ t in
              not_stop old.children old.root root ns x b (subst (λ zs. Contains zs x) (sym front) (Contains-append_right a (x ∷ above) x (contains_head x above))) last

      pub forest : IsForest old.children old.root root h.kept.all old.kept
      forest = record {
        once = h.children.once;
        one_parent = λ p q n c k. one_parent links n p q h.differ (h.children.only p n c) (h.children.only q n k);
        lowest = lowest;
        among = λ ns b. (h.kept.these (top old.root ns)).1 (length (ns ++ below), (ns ++ below, on_chain ns b, top_on ns, refl, (ns, refl)));
        few = omega (arith, h.kept.many);
      }
        where
          lowest : (ns : List Name) → IsBranch old.children old.root root ns → ¬ (Contains (old.children (top old.root ns)) old.root)
          lowest ns b c = go below h.rooted h.at_root refl
            where
              link : Contains links (record { name = old.root; parent = top old.root ns })
              link = h.children.only (top old.root ns) old.root c

              go : (low : List Name) → IsChain base links low → old.root ≡ top base low → low ≡ below → ⊥
              go [] ch t s = h.not_base (record { name = old.root; parent = top old.root ns }) link t
              go (x ∷ low) ch t s =
                  let parent : top base low ≡ top old.root ns = one_parent links old.root (top base low) (top old.root ns) h.differ (subst (λ n. Contains links (record { name = n; parent = top base low })) (sym t) ch.0) link in
                  let same : ns ++ below ≡ low = chain_unique base links (ns ++ below) low h.differ (on_chain ns b) ch.2 (top_on ns ∙ sym parent) in
                  omega (arith, ap length same, ap length s, length-append ns below)

      -- a chain through the old root and not through the new one is a branch
      branch_of : (ns : List Name) → IsChain base links (ns ++ below) → ¬ (GoesThrough names (ns ++ below)) → IsBranch old.children old.root root ns
      branch_of [] c t = tt
      branch_of (n ∷ ns) c t =
          let rest = branch_of ns c.2 (λ g. t (n ∷ g.0, ap (λ z. n ∷ z) g.1)) in
          (h.children.every (top old.root ns) n (subst (λ p. Contains links (record { name = n; parent = p })) (top_on ns) c.0) (λ height g. g.4 (subst (GoesThrough below) (chain_unique base links (ns ++ below) g.0 h.differ c.2 g.1 (top_on ns ∙ sym g.2)) (ns, refl))), λ e. t ([], chain_unique base links (n ∷ (ns ++ below)) names h.differ c chain (e ∙ sym at)), rest)

      module _ (found : List Linking) (f : AreHanging old.children (record { height = length below; name = old.root }) root found) where
        pub are_dropped : AreDropped base links below names found
        are_dropped = record { once = f.once; these = λ l. (to l, from l) }
          where
            to : (l : Linking) → Contains found l → IsKeptName base links below l.name l.height × IsGoneName base links names l.name l.height
            to l c =
                let (ns, b, e, q) = f.each l c in
                let high : l.height ≡ length (ns ++ below) = omega (arith, q, length-append ns below) in
                ((ns ++ below, on_chain ns b, top_on ns ∙ e, high, (ns, refl)), (ns ++ below, on_chain ns b, top_on ns ∙ e, high, not_through ns b))

            from : (l : Linking) → IsKeptName base links below l.name l.height × IsGoneName base links names l.name l.height → Contains found l
            from l ((c, one, e, q, (ns, w)), (c2, two, e2, q2, t2)) =
                let same : c2 ≡ ns ++ below = chain_unique base links c2 c h.differ two one (e2 ∙ sym e) ∙ w in
                let b = branch_of ns (subst (IsChain base links) w one) (subst (λ z. ¬ (GoesThrough names z)) same t2) in
                let high : length below + length ns ≡ l.height = omega (arith, q, ap length w, length-append ns below) in
                let last : top old.root ns ≡ l.name = sym (top_on ns) ∙ ap (top base) (sym w) ∙ e in
                subst (Contains found) (λ i. record { height = high i; name = last i }) (f.every ns b)

        in_found : (q : Name) (height : ℕ) → IsKeptName base links below q height → IsGoneName base links names q height → Contains (map name_of found) q
        in_found q height k g = contains_map name_of found (record { height = height; name = q }) ((are_dropped.these (record { height = height; name = q })).1 (k, g))

        of_found : (q : Name) → Contains (map name_of found) q → (height : ℕ) × IsKeptName base links below q height × IsGoneName base links names q height
        of_found q c = let (l, k, e) = mapped_from name_of found q c in let d = (are_dropped.these l).0 k in subst (λ x. (height : ℕ) × IsKeptName base links below x height × IsGoneName base links names x height) e (l.height, d.0, d.1)

        many : length (map name_of found) ≡ length found
        many = length-map found name_of

        pub first_found : 1 ≤ length found
        first_found = omega (arith, (f.every [] tt).1)

        pub fits : length found ≤ old.kept
        fits = omega (arith, many, (number_less (IsKept base links below) old.kept (map name_of found) f.once (λ x c. let d = of_found x c in (d.0, d.1)) h.kept).0)

        still_gone : (q : Name) (height : ℕ) → IsGoneName base links below q height → IsGoneName base links names q height
        still_gone q height (c, one, e, k, t) = (c, one, e, k, λ g. t (through_trans below names c through g))

        module _ (new : State) (d : Drops old new root found) where
          standings : (q : Name) → IsStanding base links names q (standing new q)
          standings q = go (contains_dec (map name_of found) q)
            where
              at_found : (l : Linking) → Contains found l → IsKeptName base links below l.name l.height → IsGoneName base links names l.name l.height → IsStanding base links names l.name (standing new l.name)
              at_found l c k g =
                  let (node, is) = has_node (old.node l.name) (λ none. new_not_linked base links l.name (subst (λ o. IsStanding base links below l.name (standing_of o)) none (h.standings l.name)) l.height (k.0, k.1, k.2, k.3)) in
                  let now : new.node l.name ≡ Some (with_standing (Gone l.height) node) = d.node l.name ∙ marked_in variant.Gone old.node found l f.once c ∙ ap (option_map (with_standing (Gone l.height))) is in
                  subst (IsStanding base links names l.name) (sym (ap standing_of now)) g

              still : (s : Standing) → ¬ (Contains (map name_of found) q) → IsStanding base links below q s → IsStanding base links names q s
              still Unknown out i = i
              still Waiting out i = i
              still (Linked height) out (c, one, e, k, t) = which (through_dec names c)
                where
                  which : GoesThrough names c ⊎ (¬ (GoesThrough names c)) → IsKeptName base links names q height
                  which (inl g) = (c, one, e, k, g)
                  which (inr n) = absurd (out (in_found q height (c, one, e, k, t) (c, one, e, k, n)))
              still (Gone height) out i = still_gone q height i

              go : Contains (map name_of found) q ⊎ (¬ (Contains (map name_of found) q)) → IsStanding base links names q (standing new q)
              go (inl c) =
                  let (l, k, e) = mapped_from name_of found q c in
                  let two = (are_dropped.these l).0 k in
                  subst (λ x. IsStanding base links names x (standing new x)) e (at_found l k two.0 two.1)
              go (inr out) = subst (IsStanding base links names q) (sym (ap standing_of (d.node q ∙ marked_out variant.Gone old.node found q out))) (still (standing old q) out (h.standings q))

          parents : (q : Name) (node : Node) → new.node q ≡ Some node → (q ≡ base) ⊎ Contains links (record { name = q; parent = node.parent })
          parents q node e = let (was, is, same) = marked_parent variant.Gone old.node found q node (sym (d.node q) ∙ e) in lift was same (h.parents q was is)
            where
              lift : (was : Node) → was.parent ≡ node.parent → (q ≡ base) ⊎ Contains links (record { name = q; parent = was.parent }) → (q ≡ base) ⊎ Contains links (record { name = q; parent = node.parent })
              lift was same (inl b) = inl b
              lift was same (inr c) = inr (subst (λ p. Contains links (record { name = q; parent = p })) same c)

          children : AreChildren base links names new.children
          children = record {
            once = λ p. subst NoRepeat (sym (d.children p)) (once p (is_among found p));
            only = λ p n c. only p n (is_among found p) (subst (λ ns. Contains ns n) (d.children p) c);
            every = λ p n c not_gone. subst (λ ns. Contains ns n) (sym (d.children p ∙ ap (λ t. cond {A = List Name} t [] (old.children p)) (among_out found p (λ k. let g = of_found p k in not_gone g.0 g.2)))) (h.children.every p n c (λ height g. not_gone height (still_gone p height g)));
          }
            where
              once : (p : Name) (t : Bool) → NoRepeat (cond {A = List Name} t [] (old.children p))
              once p true = tt
              once p false = h.children.once p

              only : (p n : Name) (t : Bool) → Contains (cond {A = List Name} t [] (old.children p)) n → Contains links (record { name = n; parent = p })
              only p n true c = absurd (contains_none n c)
              only p n false c = h.children.only p n c

          keeps : IsNumberOf (IsKept base links names) new.kept
          keeps =
              subst (IsNumberOf (IsKept base links names)) (omega (arith, d.kept, many))
              (number_same (λ x. IsKept base links below x × ¬ (Contains (map name_of found) x)) (IsKept base links names) (old.kept - length (map name_of found)) (λ x. (to x, from x))
              (number_less (IsKept base links below) old.kept (map name_of found) f.once (λ x c. let k = of_found x c in (k.0, k.1)) h.kept).1)
            where
              to : (x : Name) → IsKept base links below x × ¬ (Contains (map name_of found) x) → IsKept base links names x
              to x ((height, (c, one, e, k, t)), out) = which (through_dec names c)
                where
                  which : GoesThrough names c ⊎ (¬ (GoesThrough names c)) → IsKept base links names x
                  which (inl g) = (height, (c, one, e, k, g))
                  which (inr n) = absurd (out (in_found x height (c, one, e, k, t) (c, one, e, k, n)))

              from : (x : Name) → IsKept base links names x → IsKept base links below x × ¬ (Contains (map name_of found) x)
              from x (height, (c, one, e, k, g)) = ((height, (c, one, e, k, through_trans below names c through g)), λ m. let (any, kept, (c2, two, e2, k2, t2)) = of_found x m in t2 (subst (GoesThrough names) (chain_unique base links c c2 h.differ one two (e ∙ sym e2)) g))

          pub drops : Stands new base links names
          drops = record {
            differ = h.differ;
            not_base = h.not_base;
            rooted = chain;
            at_root = d.root ∙ sym at;
            standings = standings;
            parents = parents;
            children = children;
            known = d.known ∙ h.known;
            waiting = subst (IsNumberOf (IsWaitingName base links)) (sym d.waiting) h.waiting;
            kept = keeps;
            undo = λ one is. absurd (nothing one (sym d.last ∙ is));
          }
            where
              nothing : (one : Last) → None ≡ Some one → ⊥
              nothing one e = cc

        -- ---- the messages among them

        pub with_base : length below ≡ 0 → IsNumberOf (IsDropped base links below names) (length found - 1)
        with_base low =
            subst (IsNumberOf (IsDropped base links below names)) (ap (λ n. n - 1) many)
            (number_same (λ x. Contains (map name_of found) x × (x ≢ base)) (IsDropped base links below names) (length (map name_of found) - 1) (λ x. (λ c. (c.1, of_found x c.0), λ k. (in_found x k.1.0 k.1.1 k.1.2, k.0))) (number_without (map name_of found) base f.once base_found))
          where
            empty : (low : List Name) → length low ≡ 0 → low ≡ []
            empty [] e = refl
            empty (x ∷ low) e = absurd (omega (arith, e))

            base_found : Contains (map name_of found) base
            base_found = subst (Contains (map name_of found)) (h.at_root ∙ ap (top base) (empty below low)) (contains_map name_of found (record { height = length below + 0; name = old.root }) (f.every [] tt))

        pub without_base : length below ≢ 0 → IsNumberOf (IsDropped base links below names) (length found)
        without_base high =
            subst (IsNumberOf (IsDropped base links below names)) many
            (number_same (Contains (map name_of found)) (IsDropped base links below names) (length (map name_of found)) (λ x. (λ c. (apart x c, of_found x c), λ k. in_found x k.1.0 k.1.1 k.1.2)) (number_listed (map name_of found) f.once))
          where
            apart : (x : Name) → Contains (map name_of found) x → x ≢ base
            apart x c e = let (height, (ns, one, t, k, (a, w)), g) = of_found x c in go ns one t a w
              where
                go : (ns : List Name) → IsChain base links ns → top base ns ≡ x → (a : List Name) → ns ≡ a ++ below → ⊥
                go [] one t a w = high (omega (arith, ap length w, length-append a below))
                go (m ∷ ns) one t a w = one.1 (t ∙ e)

-- what was dropped last is no part of what the graph stands for
pub other_dropped : (state : State) (base : Name) (links : List Link) (root : List Name) (ds : List Linking) → Stands state base links root → Stands (record { node = state.node; children = state.children; root = state.root; known = state.known; waiting = state.waiting; kept = state.kept; last = state.last; linked = state.linked; dropped = ds }) base links root
other_dropped state base links root ds h = record {
  differ = h.differ;
  not_base = h.not_base;
  rooted = h.rooted;
  at_root = h.at_root;
  standings = h.standings;
  parents = h.parents;
  children = h.children;
  known = h.known;
  waiting = h.waiting;
  kept = h.kept;
  undo = h.undo;
}

pub held_chain : (state : State) (base : Name) (links : List Link) (below : List Name) (root : Name) → Stands state base links below → IsHeld (standing state root) → (names : List Name) × IsChain base links names × (top base names ≡ root)
held_chain state base links below root h held = go (standing state root) (h.standings root) held
  where
    go : (s : Standing) → IsStanding base links below root s → IsHeld s → (names : List Name) × IsChain base links names × (top base names ≡ root)
    go Unknown i held = absurd held
    go Waiting i held = absurd held
    go (Linked height) (c, one, e, q, t) held = (c, one, e)
    go (Gone height) i held = absurd held
