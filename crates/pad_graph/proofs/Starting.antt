-- A graph of the base alone, and what the nodes of a graph tell.
use Rattle.std.proofs.Common.{◌≡◌, ℕ, ◌≤◌, ◌⊎◌, inl, inr, List, [], ◌∷◌, length, Bool, true, false, cond, Option, Some, None, Contains, is_eq, refl, sym, ap, ◌∙◌, subst, arith, ltb-false}
use Rattle.std.specs.Prelude.{nat_lt, if◌then◌else◌}
use Rattle.pad_text.specs.declared.name.Name.{Name}
use Rattle.pad_graph.specs.declared.last.Last.{Last}
use Rattle.pad_graph.specs.declared.node.Node.{Node}
use Rattle.pad_graph.specs.declared.node.Mark.{Mark}
use Rattle.pad_graph.specs.declared.node.Mark.TheVariants as variant
use Rattle.pad_graph.specs.declared.standing.Standing.{Standing}
use Rattle.pad_graph.specs.declared.standing.Standing.TheVariants.{Unknown, Waiting, Linked, Gone}
use Rattle.pad_graph.specs.Chain.{Link, top, IsChain, GoesThrough, IsLinkedName, IsKeptName, IsAddedName, BecomesLinked}
use Rattle.pad_list.specs.Number.{NoRepeat, IsNumberOf}
use Rattle.pad_graph.specs.Inside.Tables.{parent_told}
use Rattle.pad_graph.specs.State.{State, standing, standing_of, name_cmp}
use Rattle.pad_graph.specs.Graph.{IsNewName, IsStanding, IsKept, IsParentOf, AreFound, Stands}
use Rattle.pad_list.proofs.CallerLemmas.{contains_head, contains_none, contains_cases, number_none}
use Rattle.pad_graph.proofs.Names.{name_same, name_apart}
use Rattle.pad_graph.proofs.Chains.{chain_short, chain_unique, OnChain, chain_new}
use Rattle.pad_graph.proofs.Growth.{new_not_linked}
use Rattle.pad_graph.specs.Inside.Marks.{IsUnder, IsApart}

module _ (state : State) (base : Name) (node : (q : Name) → state.node q ≡ cond (is_eq (name_cmp base q)) (Some (record { parent = base; standing = Linked 0 })) None) where
  base_alone : (q : Name) → IsStanding base [] [] q (standing state q)
  base_alone q = subst (λ o. IsStanding base [] [] q (standing_of o)) (sym (node q)) (go (is_eq (name_cmp base q)) refl)
    where
      go : (t : Bool) → is_eq (name_cmp base q) ≡ t → IsStanding base [] [] q (standing_of (cond t (Some (record { parent = base; standing = Linked 0 })) None))
      go true t = ([], tt, name_same base q t, refl, ([], refl))
      go false t = (λ e. name_apart base q t (sym e), λ a. contains_none a.0 a.1)

  only_base : (q : Name) (found : Node) → state.node q ≡ Some found → (q ≡ base) ⊎ Contains {X = Link} [] (record { name = q; parent = found.parent })
  only_base q found e = go (is_eq (name_cmp base q)) refl (sym (node q) ∙ e)
    where
      go : (t : Bool) → is_eq (name_cmp base q) ≡ t → cond t (Some (record { parent = base; standing = Linked 0 })) None ≡ Some found → (q ≡ base) ⊎ Contains {X = Link} [] (record { name = q; parent = found.parent })
      go true t s = inl (sym (name_same base q t))
      go false t s = cc

  kept_one : IsNumberOf (IsKept base [] []) 1
  kept_one = record { all = base ∷ []; once = (contains_none base, tt); these = λ x. (λ c. to x (contains_cases base [] x c), from x); many = refl }
    where
      to : (x : Name) → (base ≡ x) ⊎ Contains [] x → IsKept base [] [] x
      to x (inl e) = (0, ([], tt, e, refl, ([], refl)))
      to x (inr c) = absurd (contains_none x c)

      from : (x : Name) → IsKept base [] [] x → Contains (base ∷ []) x
      from x (height, ([], chain, e, q, t)) = subst (Contains (base ∷ [])) e (contains_head base [])
      from x (height, (m ∷ c, chain, e, q, t)) = absurd (contains_none (record { name = m; parent = top base c }) chain.0)

  pub started : ((q : Name) → state.children q ≡ []) → state.root ≡ base → state.known ≡ 0 → state.waiting ≡ 0 → state.kept ≡ 1 → state.last ≡ None → Stands state base [] []
  started children root known waiting kept last = record {
    differ = tt;
    not_base = λ l c. absurd (contains_none l c);
    rooted = tt;
    at_root = root;
    standings = base_alone;
    parents = only_base;
    children = record {
      once = λ p. subst NoRepeat (sym (children p)) tt;
      only = λ p n c. absurd (contains_none n (subst (λ ns. Contains ns n) (children p) c));
      every = λ p n c not_gone. absurd (contains_none (record { name = n; parent = p }) c);
    };
    known = known;
    waiting = subst (IsNumberOf _) (sym waiting) (number_none _ (λ x w. contains_none w.0.0 w.0.1));
    kept = subst (IsNumberOf (IsKept base [] [])) (sym kept) kept_one;
    undo = λ one is. absurd (nothing one (sym last ∙ is));
  }
    where
      nothing : (one : Last) → None ≡ Some one → ⊥
      nothing one e = cc

module _ (state : State) (base : Name) (links : List Link) (root : List Name) (h : Stands state base links root) where
  not_unknown : (name : Name) (node : Node) → state.node name ≡ Some node → ¬ (IsNewName base links name)
  not_unknown name node e new = go (h.parents name node e)
    where
      go : (name ≡ base) ⊎ Contains links (record { name = name; parent = node.parent }) → ⊥
      go (inl b) = new.0 b
      go (inr c) = new.1 (record { name = name; parent = node.parent }, c, refl)

  standing_at : (name : Name) (node : Node) → state.node name ≡ Some node → IsStanding base links root name node.standing
  standing_at name node e = subst (λ o. IsStanding base links root name (standing_of o)) e (h.standings name)

  -- a name whose standing is unknown has no node, and is new
  pub node_none : (name : Name) → standing state name ≡ Unknown → state.node name ≡ None
  node_none name s = go (state.node name) refl
    where
      go : (o : Option Node) → state.node name ≡ o → state.node name ≡ None
      go None e = e
      go (Some node) e = absurd (not_unknown name node e (subst (IsStanding base links root name) (sym (ap standing_of e) ∙ s) (standing_at name node e)))

  -- a name with a node was added, or is the base
  pub known_name : (name : Name) (node : Node) → state.node name ≡ Some node → (name ≡ base) ⊎ IsAddedName links name
  known_name name node e = go (h.parents name node e)
    where
      go : (name ≡ base) ⊎ Contains links (record { name = name; parent = node.parent }) → (name ≡ base) ⊎ IsAddedName links name
      go (inl b) = inl b
      go (inr c) = inr (record { name = name; parent = node.parent }, c, refl)

  -- the parent that is told
  pub no_parent : (name : Name) → state.node name ≡ None → IsParentOf base links root name None
  no_parent name e added = absurd ((subst (λ o. IsStanding base links root name (standing_of o)) e (h.standings name)).1 added)

  pub told_parent : (name : Name) (node : Node) → state.node name ≡ Some node → IsParentOf base links root name (parent_told node.standing node.parent)
  told_parent name node e = go node.standing (standing_at name node e) (h.parents name node e)
    where
      high : (height : ℕ) → IsKeptName base links root name height → (t : Bool) → nat_lt 0 height ≡ t → (name ≡ base) ⊎ Contains links (record { name = name; parent = node.parent }) → IsParentOf base links root name (if t then Some node.parent else None)
      high height ([], chain, s, q, t) true lt (inl b) = absurd (subst (λ n. nat_lt 0 n ≡ true → ⊥) (sym q) (λ x. cc) lt)
      high height (m ∷ c, chain, s, q, t) true lt (inl b) = absurd (chain.1 (s ∙ b))
      high height (c, chain, s, q, t) true lt (inr k) = (k, λ any g. g.4 (subst (GoesThrough root) (chain_unique base links c g.0 h.differ chain g.1 (s ∙ sym g.2)) t))
      high height ([], chain, s, q, t) false lt p = λ added. absurd (h.not_base added.0 added.1 (added.2 ∙ sym s))
      high height (m ∷ c, chain, s, q, t) false lt p = absurd (omega (arith, ltb-false 0 height lt, q))

      go : (s : Standing) → IsStanding base links root name s → (name ≡ base) ⊎ Contains links (record { name = name; parent = node.parent }) → IsParentOf base links root name (parent_told s node.parent)
      go Unknown new p = absurd (not_unknown name node e new)
      go Waiting w (inl b) = absurd (h.not_base w.0.0 w.0.1 (w.0.2 ∙ b))
      go Waiting w (inr c) = (c, λ height g. w.1 height (g.0, g.1, g.2, g.3))
      go (Linked height) k p = high height k (nat_lt 0 height) refl p
      go (Gone height) g p = λ added. (height, g)

  -- ---- what is known of a parent

  pub under_small : (mark : Mark) (height : ℕ) (parent : Name) → IsUnder mark height (standing state parent) → height ≤ state.known
  under_small variant.Waiting height parent u = absurd u
  under_small variant.Linked height parent u = let (c, chain, s, q, t) = subst (IsStanding base links root parent) u (h.standings parent) in omega (arith, q, chain_short base links c h.differ chain, h.known)
  under_small variant.Gone height parent u = let (c, chain, s, q, t) = subst (IsStanding base links root parent) u (h.standings parent) in omega (arith, q, chain_short base links c h.differ chain, h.known)

  apart_not_linked : (s : Standing) (parent : Name) → IsApart s → IsStanding base links root parent s → (height : ℕ) → ¬ (IsLinkedName base links parent height)
  apart_not_linked Unknown parent a new = new_not_linked base links parent new
  apart_not_linked Waiting parent a w = w.1
  apart_not_linked (Linked height) parent a k = absurd a
  apart_not_linked (Gone height) parent a k = absurd a

  -- nothing becomes linked on a parent that is not
  pub nothing_links : (name parent : Name) → IsApart (standing state parent) → (any : Name) (height : ℕ) → ¬ (BecomesLinked base links (record { name = name; parent = parent }) any height)
  nothing_links name parent a any height w = go (chain_new base links (record { name = name; parent = parent }) w.now.0 w.now.1)
    where
      go : IsChain base links w.now.0 ⊎ OnChain base links (record { name = name; parent = parent }) w.now.0 → ⊥
      go (inl old) = w.before height (w.now.0, old, w.now.2, w.now.3)
      go (inr o) = apart_not_linked (standing state parent) parent a (h.standings parent) (length o.below) (o.below, o.chain, o.parent, refl)

  pub none_found : (name parent : Name) → IsApart (standing state parent) → AreFound base links root (record { name = name; parent = parent }) variant.Waiting []
  none_found name parent a = record {
    newly = record { once = tt; these = λ l. (λ c. absurd (contains_none l c), λ w. absurd (nothing_links name parent a l.name l.height w)) };
    stand = λ l c. absurd (contains_none l c);
  }
