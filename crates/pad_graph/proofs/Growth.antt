-- A link that comes in: the graph stands for one link more.
use Rattle.std.proofs.Common.{◌≡◌, ◌≢◌, ℕ, ◌+◌, ◌-◌, ◌≤◌, ◌⊎◌, inl, inr, List, [], ◌∷◌, ◌++◌, length, map, Bool, true, false, cond, Option, Some, None, Contains, is_eq, refl, sym, ap, ◌∙◌, subst, arith}
use Rattle.std.specs.Option.{option_map}
use Rattle.std.proofs.lemmas.List.{length-map}
use Rattle.std.proofs.lemmas.List.Elements.{Contains-append_left, Contains-append_right}
use Rattle.pad_text.specs.declared.name.Name.{Name}
use Rattle.pad_graph.specs.declared.linking.Linking.{Linking}
use Rattle.pad_graph.specs.declared.last.Last.{Last}
use Rattle.pad_graph.specs.declared.node.Node.{Node}
use Rattle.pad_graph.specs.declared.node.Mark.{Mark}
use Rattle.pad_graph.specs.declared.node.Mark.TheVariants as variant
use Rattle.pad_graph.specs.declared.standing.Standing.{Standing}
use Rattle.pad_graph.specs.declared.standing.Standing.TheVariants.{Unknown, Waiting, Linked, Gone}
use Rattle.pad_graph.specs.Chain.{Link, top, IsChain, GoesThrough, IsLinkedName, IsKeptName, IsGoneName, IsAddedName, IsWaitingName, BecomesLinked}
use Rattle.pad_list.specs.Number.{NoRepeat, IsNumberOf}
use Rattle.pad_graph.specs.Inside.Tables.{with_standing}
use Rattle.pad_graph.specs.State.{State, standing, standing_of, name_cmp, marked_as}
use Rattle.pad_graph.specs.Graph.{LinksDiffer, IsNewName, IsStanding, IsKept, IsNotGone, AreChildren, AreNewlyLinked, AreFound, IsLast, Stands}
use Rattle.pad_graph.specs.Inside.Growth.{with_link, Enters}
use Rattle.pad_list.proofs.CallerLemmas.{contains_head, contains_more, contains_cases, contains_none, contains_map, mapped_from, contains_append, no_repeat_push, number_same, number_more, number_less, number_with}
use Rattle.pad_graph.proofs.Names.{name_same, name_apart, name_equal}
use Rattle.pad_graph.proofs.Spreading.{name_of}
use Rattle.pad_graph.proofs.Chains.{link_name, named, added_in, chain_unique, chain_more, OnChain, chain_new}
use Rattle.pad_graph.proofs.Marked.{contains_dec, marked_out, marked_in, marked_parent}
use Rattle.pad_graph.specs.Inside.Marks.{kept_by}

pub new_not_linked : (base : Name) (links : List Link) (name : Name) → IsNewName base links name → (height : ℕ) → ¬ (IsLinkedName base links name height)
new_not_linked base links name new height ([], chain, e, q) = new.0 (sym e)
new_not_linked base links name new height (m ∷ c, chain, e, q) = new.1 (record { name = m; parent = top base c }, chain.0, e)

pub link_known : (base : Name) (links : List Link) (name : Name) (height : ℕ) → IsLinkedName base links name height → (base ≡ name) ⊎ IsAddedName links name
link_known base links name height ([], chain, e, q) = inl e
link_known base links name height (m ∷ c, chain, e, q) = inr (record { name = m; parent = top base c }, chain.0, e)

-- a node's standing tells whether there is one
pub has_node : (o : Option Node) → (o ≢ None) → (node : Node) × (o ≡ Some node)
has_node None n = absurd (n refl)
has_node (Some node) n = (node, refl)

module _ (old new : State) (base : Name) (links : List Link) (root : List Name) (link : Link) (mark : Mark) (found : List Linking) (h : Stands old base links root) (fresh : IsNewName base links link.name) (f : AreFound base links root link mark found) where
  differs : LinksDiffer (link ∷ links)
  differs = (λ c. fresh.1 (added_in links link.name c), h.differ)

  was_new : (any : ℕ) → ¬ (IsLinkedName base links link.name any)
  was_new = new_not_linked base links link.name fresh

  -- what becomes linked is among those found
  in_found : (q : Name) (height : ℕ) → BecomesLinked base links link q height → Contains (map name_of found) q
  in_found q height w = contains_map name_of found (record { height = height; name = q }) ((f.newly.these (record { height = height; name = q })).1 w)

  found_new : (q : Name) → Contains (map name_of found) q → (l : Linking) × Contains found l × (l.name ≡ q) × BecomesLinked base links link l.name l.height
  found_new q c = let (l, k, e) = mapped_from name_of found q c in (l, k, e, (f.newly.these l).0 k)

  -- a chain of the links with the new one, that is none of the old ones, makes its name newly linked
  newly_from : (names : List Name) → IsChain base (link ∷ links) names → OnChain base links link names → Contains (map name_of found) (top base names)
  newly_from names chain o = in_found (top base names) (length names) (record { now = (names, chain, refl, refl); before = Rattle.pad_graph.proofs.Chains.not_before base links link root names h.rooted fresh.1 o differs chain })

  still_linked : (q : Name) (height : ℕ) → IsLinkedName base links q height → IsLinkedName base (link ∷ links) q height
  still_linked q height (c, chain, e, k) = (c, chain_more base link links c chain, e, k)

  still_gone : (q : Name) (height : ℕ) → IsGoneName base links root q height → IsGoneName base (link ∷ links) root q height
  still_gone q height (c, chain, e, k, t) = (c, chain_more base link links c chain, e, k, t)

  still_kept : (q : Name) (height : ℕ) → IsKeptName base links root q height → IsKeptName base (link ∷ links) root q height
  still_kept q height (c, chain, e, k, t) = (c, chain_more base link links c chain, e, k, t)

  -- what was added before, or now
  added_cases : (q : Name) → IsAddedName (link ∷ links) q → (link.name ≡ q) ⊎ IsAddedName links q
  added_cases q (l, c, e) = go (contains_cases link links l c)
    where
      go : (link ≡ l) ⊎ Contains links l → (link.name ≡ q) ⊎ IsAddedName links q
      go (inl s) = inl (ap link_name s ∙ e)
      go (inr k) = inr (l, k, e)

  added_more : (q : Name) → IsAddedName links q → IsAddedName (link ∷ links) q
  added_more q (l, c, e) = (l, contains_more link links l c, e)

  added_now : IsAddedName (link ∷ links) link.name
  added_now = (link, contains_head link links, refl)

  -- a name that is not found stands as it did
  not_linked_now : (q : Name) → ¬ (Contains (map name_of found) q) → ((any : ℕ) → ¬ (IsLinkedName base links q any)) → (height : ℕ) → ¬ (IsLinkedName base (link ∷ links) q height)
  not_linked_now q out before height now = out (in_found q height (record { now = now; before = before }))

  still : (q : Name) (s : Standing) → ¬ (Contains (map name_of found) q) → (link.name ≢ q) → IsStanding base links root q s → IsStanding base (link ∷ links) root q s
  still q Unknown out apart new = (new.0, λ a. neither (added_cases q a))
    where
      neither : (link.name ≡ q) ⊎ IsAddedName links q → ⊥
      neither (inl e) = apart e
      neither (inr k) = new.1 k
  still q Waiting out apart (a, w) = (added_more q a, not_linked_now q out w)
  still q (Linked height) out apart k = still_kept q height k
  still q (Gone height) out apart g = still_gone q height g

  many : length (map name_of found) ≡ length found
  many = length-map found name_of

  linked_found : (q : Name) → Contains (map name_of found) q → (link.name ≡ q) ⊎ IsWaitingName base links q
  linked_found q c = let (l, k, s, w) = found_new q c in subst (λ x. (link.name ≡ x) ⊎ IsWaitingName base links x) s (go l w (link_known base (link ∷ links) l.name l.height w.now))
    where
      go : (l : Linking) → BecomesLinked base links link l.name l.height → (base ≡ l.name) ⊎ IsAddedName (link ∷ links) l.name → (link.name ≡ l.name) ⊎ IsWaitingName base links l.name
      go l w (inl s) = absurd (w.before 0 ([], tt, s, refl))
      go l w (inr a) = which (added_cases l.name a)
        where
          which : (link.name ≡ l.name) ⊎ IsAddedName links l.name → (link.name ≡ l.name) ⊎ IsWaitingName base links l.name
          which (inl s) = inl s
          which (inr b) = inr (b, w.before)

  one_more : IsNumberOf (λ x. (link.name ≡ x) ⊎ IsWaitingName base links x) (old.waiting + 1)
  one_more = number_more (IsWaitingName base links) old.waiting link.name (λ w. fresh.1 w.0) h.waiting

  pub room : length found ≤ old.waiting + 1
  room = omega (arith, many, (number_less (λ x. (link.name ≡ x) ⊎ IsWaitingName base links x) (old.waiting + 1) (map name_of found) f.newly.once linked_found one_more).0)

  module _ (e : Enters old new link mark found) where
    with_new : Name → Option Node
    with_new = with_link old.node link

    -- each of those found has a node
    found_node : (l : Linking) → BecomesLinked base links link l.name l.height → (node : Node) × (with_link old.node link l.name ≡ Some node)
    found_node l w = has_node (with_link old.node link l.name) (λ none. go (is_eq (name_cmp link.name l.name)) refl none)
      where
        nobody : old.node l.name ≡ None → link.name ≢ l.name → ⊥
        nobody none apart =
            let new_name : IsNewName base links l.name = subst (λ o. IsStanding base links root l.name (standing_of o)) none (h.standings l.name) in
            which new_name (link_known base (link ∷ links) l.name l.height w.now)
          where
            which : IsNewName base links l.name → (base ≡ l.name) ⊎ IsAddedName (link ∷ links) l.name → ⊥
            which n (inl s) = n.0 (sym s)
            which n (inr a) = again n (added_cases l.name a)
              where
                again : IsNewName base links l.name → (link.name ≡ l.name) ⊎ IsAddedName links l.name → ⊥
                again n (inl s) = apart s
                again n (inr a) = n.1 a

        go : (t : Bool) → is_eq (name_cmp link.name l.name) ≡ t → cond t (Some (record { parent = link.parent; standing = Waiting })) (old.node l.name) ≡ None → ⊥
        go true t none = cc
        go false t none = nobody none (name_apart link.name l.name t)

    standings : (q : Name) → IsStanding base (link ∷ links) root q (standing new q)
    standings q = go (contains_dec (map name_of found) q)
      where
        at_found : (l : Linking) → Contains found l → BecomesLinked base links link l.name l.height → IsStanding base (link ∷ links) root l.name (standing new l.name)
        at_found l c w =
            let (node, is) = found_node l w in
            let node_now : new.node l.name ≡ Some (with_standing (marked_as mark l.height) node) = e.node l.name ∙ marked_in mark (with_link old.node link) found l f.newly.once c ∙ ap (option_map (with_standing (marked_as mark l.height))) is in
            subst (IsStanding base (link ∷ links) root l.name) (sym (ap standing_of node_now)) (f.stand l c)

        other : ¬ (Contains (map name_of found) q) → (t : Bool) → is_eq (name_cmp link.name q) ≡ t → new.node q ≡ cond t (Some (record { parent = link.parent; standing = Waiting })) (old.node q) → IsStanding base (link ∷ links) root q (standing new q)
        other out true t is =
            let same = name_same link.name q t in
            subst (IsStanding base (link ∷ links) root q) (sym (ap standing_of is)) (subst (IsAddedName (link ∷ links)) same added_now, not_linked_now q out (λ any k. was_new any (subst (λ x. IsLinkedName base links x any) (sym same) k)))
        other out false t is = subst (IsStanding base (link ∷ links) root q) (sym (ap standing_of is)) (still q (standing old q) out (name_apart link.name q t) (h.standings q))

        go : Contains (map name_of found) q ⊎ (¬ (Contains (map name_of found) q)) → IsStanding base (link ∷ links) root q (standing new q)
        go (inl c) = let (l, k, s, w) = found_new q c in subst (λ x. IsStanding base (link ∷ links) root x (standing new x)) s (at_found l k w)
        go (inr out) = other out (is_eq (name_cmp link.name q)) refl (e.node q ∙ marked_out mark (with_link old.node link) found q out)

    parents : (q : Name) (node : Node) → new.node q ≡ Some node → (q ≡ base) ⊎ Contains (link ∷ links) (record { name = q; parent = node.parent })
    parents q node is =
        let (was, at, same) = marked_parent mark (with_link old.node link) found q node (sym (e.node q) ∙ is) in
        go (is_eq (name_cmp link.name q)) refl was at same
      where
        some_same : (a b : Node) → Some a ≡ Some b → a ≡ b
        some_same a b e = cc

        lift : (was : Node) → was.parent ≡ node.parent → (q ≡ base) ⊎ Contains links (record { name = q; parent = was.parent }) → (q ≡ base) ⊎ Contains (link ∷ links) (record { name = q; parent = node.parent })
        lift was same (inl b) = inl b
        lift was same (inr c) = inr (subst (λ p. Contains (link ∷ links) (record { name = q; parent = p })) same (contains_more link links (record { name = q; parent = was.parent }) c))

        go : (t : Bool) → is_eq (name_cmp link.name q) ≡ t → (was : Node) → cond t (Some (record { parent = link.parent; standing = Waiting })) (old.node q) ≡ Some was → was.parent ≡ node.parent → (q ≡ base) ⊎ Contains (link ∷ links) (record { name = q; parent = node.parent })
        go true t was at same =
            let one = ap (λ (n : Node). n.parent) (some_same (record { parent = link.parent; standing = Waiting }) was at) ∙ same in
            let name = name_same link.name q t in
            inr (subst (Contains (link ∷ links)) (λ i. record { name = name i; parent = one i }) (contains_head link links))
        go false t was at same = lift was same (h.parents q was at)

    -- ---- children

    child_cases : (p n : Name) → Contains (new.children p) n → ((link.name ≡ n) × (link.parent ≡ p)) ⊎ Contains (old.children p) n
    child_cases p n c = go (is_eq (name_cmp link.parent p)) refl (subst (λ ns. Contains ns n) (e.children p) c)
      where
        which : link.parent ≡ p → Contains (old.children p) n ⊎ Contains (link.name ∷ []) n → ((link.name ≡ n) × (link.parent ≡ p)) ⊎ Contains (old.children p) n
        which s (inl k) = inr k
        which s (inr k) = inl (head (contains_cases link.name [] n k), s)
          where
            head : (link.name ≡ n) ⊎ Contains [] n → link.name ≡ n
            head (inl e) = e
            head (inr c) = absurd (contains_none n c)

        go : (t : Bool) → is_eq (name_cmp link.parent p) ≡ t → Contains (cond t (old.children p ++ link.name ∷ []) (old.children p)) n → ((link.name ≡ n) × (link.parent ≡ p)) ⊎ Contains (old.children p) n
        go true t c = which (name_same link.parent p t) (contains_append (old.children p) (link.name ∷ []) n c)
        go false t c = inr c

    child_stays : (p n : Name) → Contains (old.children p) n → Contains (new.children p) n
    child_stays p n c = subst (λ ns. Contains ns n) (sym (e.children p)) (go (is_eq (name_cmp link.parent p)))
      where
        go : (t : Bool) → Contains (cond t (old.children p ++ link.name ∷ []) (old.children p)) n
        go true = Contains-append_left (old.children p) (link.name ∷ []) n c
        go false = c

    grown : new.children link.parent ≡ old.children link.parent ++ link.name ∷ []
    grown = e.children link.parent ∙ ap (λ t. cond t (old.children link.parent ++ link.name ∷ []) (old.children link.parent)) (name_equal link.parent link.parent refl)

    -- complete where the parent was not gone
    every : (p n : Name) → Contains (link ∷ links) (record { name = n; parent = p }) → IsNotGone base links root p → Contains (new.children p) n
    every p n c not_gone = go (contains_cases link links (record { name = n; parent = p }) c)
      where
        go : (link ≡ record { name = n; parent = p }) ⊎ Contains links (record { name = n; parent = p }) → Contains (new.children p) n
        go (inl s) =
            let here = subst (λ ns. Contains ns link.name) (sym grown) (Contains-append_right (old.children link.parent) (link.name ∷ []) link.name (contains_head link.name [])) in
            subst (λ (l : Link). Contains (new.children l.parent) l.name) s here
        go (inr k) = child_stays p n (h.children.every p n k not_gone)

    children : AreChildren base (link ∷ links) root new.children
    children = record {
      once = λ p. subst NoRepeat (sym (e.children p)) (once p (is_eq (name_cmp link.parent p)));
      only = λ p n c. only p n (child_cases p n c);
      every = λ p n c not_gone. every p n c (λ height g. not_gone height (still_gone p height g));
    }
      where
        once : (p : Name) (t : Bool) → NoRepeat (cond t (old.children p ++ link.name ∷ []) (old.children p))
        once p true = no_repeat_push (old.children p) link.name (h.children.once p) (λ c. fresh.1 (record { name = link.name; parent = p }, h.children.only p link.name c, refl))
        once p false = h.children.once p

        only : (p n : Name) → ((link.name ≡ n) × (link.parent ≡ p)) ⊎ Contains (old.children p) n → Contains (link ∷ links) (record { name = n; parent = p })
        only p n (inl (s, t)) = subst (Contains (link ∷ links)) (λ i. record { name = s i; parent = t i }) (contains_head link links)
        only p n (inr k) = contains_more link links (record { name = n; parent = p }) (h.children.only p n k)

    -- ---- counts

    waits : IsNumberOf (IsWaitingName base (link ∷ links)) new.waiting
    waits =
        let less = (number_less (λ x. (link.name ≡ x) ⊎ IsWaitingName base links x) (old.waiting + 1) (map name_of found) f.newly.once linked_found one_more).1 in
        subst (IsNumberOf (IsWaitingName base (link ∷ links))) (omega (arith, e.waiting, many))
        (number_same (λ x. ((link.name ≡ x) ⊎ IsWaitingName base links x) × ¬ (Contains (map name_of found) x)) (IsWaitingName base (link ∷ links)) (old.waiting + 1 - length (map name_of found)) (λ x. (to x, from x)) less)
      where
        to : (x : Name) → ((link.name ≡ x) ⊎ IsWaitingName base links x) × ¬ (Contains (map name_of found) x) → IsWaitingName base (link ∷ links) x
        to x (inl s, out) = (subst (IsAddedName (link ∷ links)) s added_now, not_linked_now x out (λ any k. was_new any (subst (λ y. IsLinkedName base links y any) (sym s) k)))
        to x (inr w, out) = (added_more x w.0, not_linked_now x out w.1)

        from : (x : Name) → IsWaitingName base (link ∷ links) x → ((link.name ≡ x) ⊎ IsWaitingName base links x) × ¬ (Contains (map name_of found) x)
        from x (a, w) = (go (added_cases x a), λ c. let (l, k, s, b) = found_new x c in w l.height (subst (λ y. IsLinkedName base (link ∷ links) y l.height) s b.now))
          where
            go : (link.name ≡ x) ⊎ IsAddedName links x → (link.name ≡ x) ⊎ IsWaitingName base links x
            go (inl s) = inl s
            go (inr b) = inr (b, λ any k. w any (still_linked x any k))

    -- a name that is kept now was kept before, or was found
    kept_cases : (x : Name) → IsKept base (link ∷ links) root x → Contains (map name_of found) x ⊎ IsKept base links root x
    kept_cases x (height, (c, chain, s, k, t)) = go (chain_new base links link c chain)
      where
        go : IsChain base links c ⊎ OnChain base links link c → Contains (map name_of found) x ⊎ IsKept base links root x
        go (inl was) = inr (height, (c, was, s, k, t))
        go (inr o) = inl (subst (Contains (map name_of found)) s (newly_from c chain o))

    kept_more : (x : Name) → IsKept base links root x → IsKept base (link ∷ links) root x
    kept_more x (height, k) = (height, still_kept x height k)

    keeps : (m : Mark) → m ≡ mark → IsNumberOf (IsKept base (link ∷ links) root) (old.kept + kept_by m (length found))
    keeps variant.Linked is =
        subst (IsNumberOf (IsKept base (link ∷ links) root)) (ap (λ n. old.kept + n) many)
        (number_same (λ x. Contains (map name_of found) x ⊎ IsKept base links root x) (IsKept base (link ∷ links) root) (old.kept + length (map name_of found)) (λ x. (to x, kept_cases x))
        (number_with (IsKept base links root) old.kept (map name_of found) f.newly.once (λ x c k. let (l, d, s, w) = found_new x c in w.before k.0 (subst (λ y. IsLinkedName base links y k.0) (sym s) (k.1.0, k.1.1, k.1.2, k.1.3))) h.kept))
      where
        to : (x : Name) → Contains (map name_of found) x ⊎ IsKept base links root x → IsKept base (link ∷ links) root x
        to x (inl c) = let (l, k, s, w) = found_new x c in subst (IsKept base (link ∷ links) root) s (l.height, subst (λ m. IsStanding base (link ∷ links) root l.name (marked_as m l.height)) (sym is) (f.stand l k))
        to x (inr k) = kept_more x k
    keeps variant.Gone is = subst (IsNumberOf (IsKept base (link ∷ links) root)) (omega arith) (number_same (IsKept base links root) (IsKept base (link ∷ links) root) old.kept (λ x. (kept_more x, λ k. go x k (kept_cases x k))) h.kept)
      where
        go : (x : Name) → IsKept base (link ∷ links) root x → Contains (map name_of found) x ⊎ IsKept base links root x → IsKept base links root x
        go x k (inr was) = was
        go x (height, (c, chain, s, q, t)) (inl d) =
            let (l, k, r, w) = found_new x d in
            let (c2, chain2, s2, q2, t2) = subst (λ m. IsStanding base (link ∷ links) root l.name (marked_as m l.height)) (sym is) (f.stand l k) in
            absurd (t2 (subst (GoesThrough root) (chain_unique base (link ∷ links) c c2 differs chain chain2 (s ∙ sym r ∙ sym s2)) t))
    keeps variant.Waiting is = subst (IsNumberOf (IsKept base (link ∷ links) root)) (omega arith) (number_same (IsKept base links root) (IsKept base (link ∷ links) root) old.kept (λ x. (kept_more x, λ k. go x (kept_cases x k))) h.kept)
      where
        go : (x : Name) → Contains (map name_of found) x ⊎ IsKept base links root x → IsKept base links root x
        go x (inr was) = was
        go x (inl d) =
            let (l, k, r, w) = found_new x d in
            let waits = subst (λ m. IsStanding base (link ∷ links) root l.name (marked_as m l.height)) (sym is) (f.stand l k) in
            absurd (waits.1 l.height w.now)

    last_of : Last
    last_of = record { name = link.name; waiting = old.waiting; kept = old.kept }

    undo : IsLast base (link ∷ links) root new.children new.linked (record { name = link.name; waiting = old.waiting; kept = old.kept })
    undo = record {
      older = links;
      parent = link.parent;
      whole = refl;
      rooted = h.rooted;
      before = old.children link.parent;
      child = grown;
      every = every;
      newly = subst (AreNewlyLinked base links link) (sym e.linked) f.newly;
      waiting = h.waiting;
      kept = h.kept;
    }

    pub enters : Stands new base (link ∷ links) root
    enters = record {
      differ = differs;
      not_base = λ l c. not_base l (contains_cases link links l c);
      rooted = chain_more base link links root h.rooted;
      at_root = e.root ∙ h.at_root;
      standings = standings;
      parents = parents;
      children = children;
      known = omega (arith, e.known, h.known);
      waiting = waits;
      kept = subst (IsNumberOf (IsKept base (link ∷ links) root)) (sym e.kept) (keeps mark refl);
      undo = λ last is. subst (IsLast base (link ∷ links) root new.children new.linked) (some_same (record { name = link.name; waiting = old.waiting; kept = old.kept }) last (sym e.last ∙ is)) undo;
    }
      where
        some_same : (a b : Last) → Some a ≡ Some b → a ≡ b
        some_same a b e = cc

        not_base : (l : Link) → (link ≡ l) ⊎ Contains links l → l.name ≢ base
        not_base l (inl s) = λ q. fresh.0 (ap link_name s ∙ q)
        not_base l (inr k) = h.not_base l k
