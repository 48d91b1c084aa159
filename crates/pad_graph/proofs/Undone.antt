-- A link that is taken back: the graph stands for the links before it.
use Rattle.std.proofs.Common.{◌≡◌, ◌≢◌, ℕ, ◌≤◌, ◌⊎◌, inl, inr, List, [], ◌∷◌, ◌++◌, length, map, Bool, true, false, cond, Option, Some, None, IfSome, Contains, is_eq, refl, sym, ap, ◌∙◌, subst, arith}
use Rattle.std.specs.Option.{option_map}
use Rattle.pad_text.specs.declared.name.Name.{Name}
use Rattle.pad_graph.specs.declared.linking.Linking.{Linking}
use Rattle.pad_graph.specs.declared.last.Last.{Last}
use Rattle.pad_graph.specs.declared.node.Node.{Node}
use Rattle.pad_graph.specs.declared.node.Mark.TheVariants as variant
use Rattle.pad_graph.specs.declared.standing.Standing.{Standing}
use Rattle.pad_graph.specs.declared.standing.Standing.TheVariants.{Unknown, Waiting, Linked, Gone}
use Rattle.pad_graph.specs.Chain.{Link, top, IsChain, IsLinkedName, IsKeptName, IsGoneName, IsAddedName, IsWaitingName, BecomesLinked}
use Rattle.pad_list.specs.Number.{NoRepeat, IsNumberOf}
use Rattle.pad_graph.specs.Inside.Tables.{marked, with_standing}
use Rattle.pad_graph.specs.State.{State, standing, standing_of, name_cmp}
use Rattle.pad_graph.specs.Graph.{IsStanding, IsKept, IsNotGone, AreChildren, AreNewlyLinked, Stands}
use Rattle.pad_graph.specs.Inside.Steps.{Undoes}
use Rattle.pad_list.proofs.CallerLemmas.{contains_head, contains_more, contains_cases, contains_none, contains_map, mapped_from, contains_append}
use Rattle.pad_graph.proofs.Names.{name_same, name_apart}
use Rattle.pad_graph.proofs.Spreading.{name_of}
use Rattle.pad_graph.proofs.Chains.{link_name, named, one_parent, chain_more, OnChain, chain_new, not_before}
use Rattle.pad_graph.proofs.Marked.{contains_dec, marked_out, marked_in, marked_parent}
use Rattle.pad_graph.proofs.Growth.{new_not_linked, link_known, has_node}
use Rattle.std.proofs.lemmas.List.Elements.{Contains-append_left}

pub no_repeat_init : {A : Type 0} (xs : List A) (y : A) → NoRepeat (xs ++ y ∷ []) → NoRepeat xs × ¬ (Contains xs y)
no_repeat_init [] y h = (tt, contains_none y)
no_repeat_init {A = A} (x ∷ xs) y h = let r = no_repeat_init xs y h.1 in ((λ c. h.0 (Contains-append_left xs (y ∷ []) x c), r.0), λ c. go r.1 (contains_cases x xs y c))
  where
    go : ¬ (Contains xs y) → (x ≡ y) ⊎ Contains xs y → ⊥
    go n (inl e) = h.0 (subst (Contains (xs ++ y ∷ [])) (sym e) (at_end xs))
      where
        at_end : (zs : List A) → Contains (zs ++ y ∷ []) y
        at_end [] = contains_head y []
        at_end (z ∷ zs) = contains_more z (zs ++ y ∷ []) y (at_end zs)
    go n (inr c) = n c

module _ (old new : State) (base : Name) (links : List Link) (root : List Name) (name parent : Name) (last : Last) (is : last.name ≡ name) (h : Stands old base (record { name = name; parent = parent } ∷ links) root) (rooted : IsChain base links root)
    (every_child : (other n : Name) → Contains (record { name = name; parent = parent } ∷ links) (record { name = n; parent = other }) → IsNotGone base links root other → Contains (old.children other) n)
    (newly : AreNewlyLinked base links (record { name = name; parent = parent }) old.linked) (waits : IsNumberOf (IsWaitingName base links) last.waiting) (keeps : IsNumberOf (IsKept base links root) last.kept) (u : Undoes old new parent last) where
  abbrev pub link : Link
  link = record { name = name; parent = parent }

  abbrev pub linked : List Linking
  linked = old.linked

  fresh : ¬ (IsAddedName links name)
  fresh a = h.differ.0 (subst (Contains (map link_name links)) a.2 (named links a.0 a.1))

  not_base_name : name ≢ base
  not_base_name = h.not_base link (contains_head link links)

  node_is : (q : Name) → new.node q ≡ cond {A = Option Node} (is_eq (name_cmp name q)) None (marked variant.Waiting old.node linked q)
  node_is q = subst (λ n. new.node q ≡ cond {A = Option Node} (is_eq (name_cmp n q)) None (marked variant.Waiting old.node linked q)) is (u.node q)

  children_are : (q : Name) → old.children q ≡ cond (is_eq (name_cmp parent q)) (new.children q ++ name ∷ []) (new.children q)
  children_are q = subst (λ n. old.children q ≡ cond (is_eq (name_cmp parent q)) (new.children q ++ n ∷ []) (new.children q)) is (u.children q)

  in_linked : (q : Name) (height : ℕ) → BecomesLinked base links link q height → Contains (map name_of linked) q
  in_linked q height w = contains_map name_of linked (record { height = height; name = q }) ((newly.these (record { height = height; name = q })).1 w)

  newly_from : (names : List Name) → IsChain base (link ∷ links) names → OnChain base links link names → Contains (map name_of linked) (top base names)
  newly_from names chain o = in_linked (top base names) (length names) (record { now = (names, chain, refl, refl); before = not_before base links link root names rooted fresh o h.differ chain })

  tail : (q : Name) → name ≢ q → IsAddedName (link ∷ links) q → IsAddedName links q
  tail q apart (l, c, e) = go (contains_cases link links l c)
    where
      go : (link ≡ l) ⊎ Contains links l → IsAddedName links q
      go (inl s) = absurd (apart (ap link_name s ∙ e))
      go (inr k) = (l, k, e)

  still_linked : (q : Name) (height : ℕ) → IsLinkedName base links q height → IsLinkedName base (link ∷ links) q height
  still_linked q height (c, chain, e, k) = (c, chain_more base link links c chain, e, k)

  -- a name that did not become linked with it stands as it did
  back : (q : Name) (s : Standing) → ¬ (Contains (map name_of linked) q) → (name ≢ q) → IsStanding base (link ∷ links) root q s → IsStanding base links root q s
  back q Unknown out apart n = (n.0, λ a. n.1 (a.0, contains_more link links a.0 a.1, a.2))
  back q Waiting out apart (a, w) = (tail q apart a, λ height k. w height (still_linked q height k))
  back q (Linked height) out apart (c, chain, e, k, t) = go (chain_new base links link c chain)
    where
      go : IsChain base links c ⊎ OnChain base links link c → IsKeptName base links root q height
      go (inl was) = (c, was, e, k, t)
      go (inr o) = absurd (out (subst (Contains (map name_of linked)) e (newly_from c chain o)))
  back q (Gone height) out apart (c, chain, e, k, t) = go (chain_new base links link c chain)
    where
      go : IsChain base links c ⊎ OnChain base links link c → IsGoneName base links root q height
      go (inl was) = (c, was, e, k, t)
      go (inr o) = absurd (out (subst (Contains (map name_of linked)) e (newly_from c chain o)))

  linked_node : (l : Linking) → BecomesLinked base links link l.name l.height → (node : Node) × (old.node l.name ≡ Some node)
  linked_node l w = has_node (old.node l.name) (λ none. new_not_linked base (link ∷ links) l.name (subst (λ o. IsStanding base (link ∷ links) root l.name (standing_of o)) none (h.standings l.name)) l.height w.now)

  waits_again : (q : Name) → name ≢ q → (height : ℕ) → BecomesLinked base links link q height → IsWaitingName base links q
  waits_again q apart height w = go (link_known base (link ∷ links) q height w.now)
    where
      go : (base ≡ q) ⊎ IsAddedName (link ∷ links) q → IsWaitingName base links q
      go (inl s) = absurd (w.before 0 ([], tt, s, refl))
      go (inr a) = (tail q apart a, w.before)

  standings : (q : Name) → IsStanding base links root q (standing new q)
  standings q = go (is_eq (name_cmp name q)) refl (node_is q)
    where
      at_linked : (l : Linking) → Contains linked l → BecomesLinked base links link l.name l.height → name ≢ l.name → marked variant.Waiting old.node linked l.name ≡ new.node l.name → IsStanding base links root l.name (standing new l.name)
      at_linked l c w apart same =
          let (node, at) = linked_node l w in
          let now : new.node l.name ≡ Some (with_standing Waiting node) = sym same ∙ marked_in variant.Waiting old.node linked l newly.once c ∙ ap (option_map (with_standing Waiting)) at in
          subst (IsStanding base links root l.name) (sym (ap standing_of now)) (waits_again l.name apart l.height w)

      which : name ≢ q → new.node q ≡ marked variant.Waiting old.node linked q → Contains (map name_of linked) q ⊎ (¬ (Contains (map name_of linked) q)) → IsStanding base links root q (standing new q)
      which apart same (inl c) =
          let (l, k, e) = mapped_from name_of linked q c in
          subst (λ x. IsStanding base links root x (standing new x)) e (at_linked l k ((newly.these l).0 k) (λ s. apart (s ∙ e)) (subst (λ x. marked variant.Waiting old.node linked x ≡ new.node x) (sym e) (sym same)))
      which apart same (inr out) =
          subst (IsStanding base links root q) (sym (ap standing_of (same ∙ marked_out variant.Waiting old.node linked q out))) (back q (standing old q) out apart (h.standings q))

      go : (t : Bool) → is_eq (name_cmp name q) ≡ t → new.node q ≡ cond {A = Option Node} t None (marked variant.Waiting old.node linked q) → IsStanding base links root q (standing new q)
      go true t none = let e = name_same name q t in subst (IsStanding base links root q) (sym (ap standing_of none)) (λ b. not_base_name (e ∙ b), λ a. fresh (a.0, a.1, a.2 ∙ sym e))
      go false t same = which (name_apart name q t) same (contains_dec (map name_of linked) q)

  parents : (q : Name) (node : Node) → new.node q ≡ Some node → (q ≡ base) ⊎ Contains links (record { name = q; parent = node.parent })
  parents q node e = go (is_eq (name_cmp name q)) refl (sym (node_is q) ∙ e)
    where
      cases : name ≢ q → (was : Node) → was.parent ≡ node.parent → (q ≡ base) ⊎ Contains (link ∷ links) (record { name = q; parent = was.parent }) → (q ≡ base) ⊎ Contains links (record { name = q; parent = node.parent })
      cases apart was same (inl b) = inl b
      cases apart was same (inr c) = which (contains_cases link links (record { name = q; parent = was.parent }) c)
        where
          which : (link ≡ record { name = q; parent = was.parent }) ⊎ Contains links (record { name = q; parent = was.parent }) → (q ≡ base) ⊎ Contains links (record { name = q; parent = node.parent })
          which (inl s) = absurd (apart (ap link_name s))
          which (inr k) = inr (subst (λ p. Contains links (record { name = q; parent = p })) same k)

      go : (t : Bool) → is_eq (name_cmp name q) ≡ t → cond {A = Option Node} t None (marked variant.Waiting old.node linked q) ≡ Some node → (q ≡ base) ⊎ Contains links (record { name = q; parent = node.parent })
      go true t e = cc
      go false t e = let (was, at, same) = marked_parent variant.Waiting old.node linked q node e in cases (name_apart name q t) was same (h.parents q was at)

  -- ---- children

  child_old : (p n : Name) → Contains (new.children p) n → Contains (old.children p) n
  child_old p n c = subst (λ ns. Contains ns n) (sym (children_are p)) (go (is_eq (name_cmp parent p)))
    where
      go : (t : Bool) → Contains (cond t (new.children p ++ name ∷ []) (new.children p)) n
      go true = Contains-append_left (new.children p) (name ∷ []) n c
      go false = c

  once : (p : Name) → NoRepeat (new.children p)
  once p = go (is_eq (name_cmp parent p)) (subst NoRepeat (children_are p) (h.children.once p))
    where
      go : (t : Bool) → NoRepeat (cond t (new.children p ++ name ∷ []) (new.children p)) → NoRepeat (new.children p)
      go true n = (no_repeat_init (new.children p) name n).0
      go false n = n

  -- the name itself is no child any more
  no_child : (p : Name) → ¬ (Contains (new.children p) name)
  no_child p c = go (is_eq (name_cmp parent p)) refl (subst NoRepeat (children_are p) (h.children.once p))
    where
      go : (t : Bool) → is_eq (name_cmp parent p) ≡ t → NoRepeat (cond t (new.children p ++ name ∷ []) (new.children p)) → ⊥
      go true t n = (no_repeat_init (new.children p) name n).1 c
      go false t n = name_apart parent p t (one_parent (link ∷ links) name parent p h.differ (contains_head link links) (h.children.only p name (child_old p name c)))

  children : AreChildren base links root new.children
  children = record { once = once; only = only; every = every }
    where
      only : (p n : Name) → Contains (new.children p) n → Contains links (record { name = n; parent = p })
      only p n c = go (contains_cases link links (record { name = n; parent = p }) (h.children.only p n (child_old p n c)))
        where
          go : (link ≡ record { name = n; parent = p }) ⊎ Contains links (record { name = n; parent = p }) → Contains links (record { name = n; parent = p })
          go (inl s) = absurd (no_child p (subst (Contains (new.children p)) (sym (ap link_name s)) c))
          go (inr k) = k

      every : (p n : Name) → Contains links (record { name = n; parent = p }) → IsNotGone base links root p → Contains (new.children p) n
      every p n c not_gone = go (is_eq (name_cmp parent p)) (subst (λ ns. Contains ns n) (children_are p) (every_child p n (contains_more link links (record { name = n; parent = p }) c) not_gone))
        where
          last_one : Contains (new.children p) n ⊎ Contains (name ∷ []) n → Contains (new.children p) n
          last_one (inl k) = k
          last_one (inr k) = which (contains_cases name [] n k)
            where
              which : (name ≡ n) ⊎ Contains [] n → Contains (new.children p) n
              which (inl s) = absurd (fresh (record { name = n; parent = p }, c, sym s))
              which (inr b) = absurd (contains_none n b)

          go : (t : Bool) → Contains (cond t (new.children p ++ name ∷ []) (new.children p)) n → Contains (new.children p) n
          go true k = last_one (contains_append (new.children p) (name ∷ []) n k)
          go false k = k

  pub undone_here : Stands new base links root
  undone_here = record {
    differ = h.differ.1;
    not_base = λ l c. h.not_base l (contains_more link links l c);
    rooted = rooted;
    at_root = u.root ∙ h.at_root;
    standings = standings;
    parents = parents;
    children = children;
    known = omega (arith, u.known, h.known);
    waiting = subst (IsNumberOf (IsWaitingName base links)) (sym u.waiting) waits;
    kept = subst (IsNumberOf (IsKept base links root)) (sym u.kept) keeps;
    undo = λ one at. absurd (nothing one (sym u.last ∙ at));
  }
    where
      nothing : (one : Last) → None ≡ Some one → ⊥
      nothing one e = cc

pub tail_same : (k l : Link) (xs ys : List Link) → k ∷ xs ≡ l ∷ ys → xs ≡ ys
tail_same k l xs ys e = cc

-- in terms of what the graph says of its last link
module _ (old new : State) (base : Name) (all : List Link) (root : List Name) (last : Last) (is : old.last ≡ Some last) (h : Stands old base all root) where
  pub undone : (parent : Name) → parent ≡ (h.undo last is).parent → Undoes old new parent last → Stands new base (h.undo last is).older root
  undone parent same u =
      let l = h.undo last is in
      undone_here old new base l.older root last.name l.parent last refl (subst (λ links. Stands old base links root) l.whole h) l.rooted (λ other n c. l.every other n (subst (λ links. Contains links (record { name = n; parent = other })) (sym l.whole) c)) l.newly l.waiting l.kept (subst (λ p. Undoes old new p last) same u)

  pub undone_links : (link : Link) (links : List Link) → all ≡ link ∷ links → (parent : Name) → parent ≡ (h.undo last is).parent → Undoes old new parent last → Stands new base links root
  undone_links link links e parent same u =
      let l = h.undo last is in
      subst (λ older. Stands new base older root) (tail_same (record { name = last.name; parent = l.parent }) link l.older links (sym l.whole ∙ e)) (undone parent same u)

  in_all : Contains all (record { name = last.name; parent = (h.undo last is).parent })
  in_all = subst (λ links. Contains links (record { name = last.name; parent = (h.undo last is).parent })) (sym (h.undo last is).whole) (contains_head (record { name = last.name; parent = (h.undo last is).parent }) (h.undo last is).older)

  -- the parent in the last one's node
  pub last_parent : (name found : Name) → last.name ≡ name → IfSome (old.node name) (λ node. found ≡ node.parent) → found ≡ (h.undo last is).parent
  last_parent name found same f = go (old.node name) refl f
    where
      here : Contains all (record { name = name; parent = (h.undo last is).parent })
      here = subst (λ n. Contains all (record { name = n; parent = (h.undo last is).parent })) same in_all

      which : (node : Node) → found ≡ node.parent → (name ≡ base) ⊎ Contains all (record { name = name; parent = node.parent }) → found ≡ (h.undo last is).parent
      which node e (inl b) = absurd (h.not_base (record { name = name; parent = (h.undo last is).parent }) here b)
      which node e (inr c) = e ∙ one_parent all name node.parent (h.undo last is).parent h.differ c here

      go : (o : Option Node) → old.node name ≡ o → IfSome o (λ node. found ≡ node.parent) → found ≡ (h.undo last is).parent
      go None e f = absurd ((subst (λ o. IsStanding base all root name (standing_of o)) e (h.standings name)).1 (record { name = name; parent = (h.undo last is).parent }, here, refl))
      go (Some node) e f = which node f (h.parents name node e)

  pub last_known : 1 ≤ old.known
  last_known = omega (arith, h.known, in_all.1)
