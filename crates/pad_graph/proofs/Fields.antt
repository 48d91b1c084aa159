-- The tables of a graph, as lists and as maps.
use Rattle.std.proofs.Common.{◌≡◌, ℕ, ◌+◌, ◌-◌, ◌≤◌, List, [], ◌∷◌, ◌++◌, length, map, Bool, true, false, cond, Option, Some, None, Contains, ◌⊎◌, inl, inr, is_eq, is_some, refl, sym, ap, ◌∙◌, subst, arith}
use Rattle.std.specs.Option.{option_map}
use Rattle.std.specs.Map.{lookup}
use Rattle.std.specs.declared.vec.Vec.{Vec}
use Rattle.std.specs.BTreeMap.{BTreeMap, get, is_at, Updates}
use Rattle.std.proofs.lemmas.List.{length-map}
use Rattle.pad_text.specs.declared.name.Name.{Name}
use Rattle.pad_graph.specs.declared.linking.Linking.{Linking}
use Rattle.pad_graph.specs.declared.last.Last.{Last}
use Rattle.pad_graph.specs.declared.node.Node.{Node}
use Rattle.pad_graph.specs.declared.node.Mark.{Mark}
use Rattle.pad_graph.specs.declared.node.Mark.TheVariants as variant
use Rattle.pad_graph.specs.declared.standing.Standing.TheVariants.{Waiting}
use Rattle.pad_graph.specs.Inside.Tables.{names_in, marked, is_among, IsPut, IsSame, HasChild, HasSameNames}
use Rattle.pad_graph.specs.Chain.{Link, IsAddedName}
use Rattle.pad_graph.specs.Inside.Hanging.{IsForest, AreHanging}
use Rattle.pad_graph.specs.State.{State, state_of, standing_of, names_at, last_added, name_cmp}
use Rattle.pad_graph.specs.Graph.{IsNewName, IsStanding, Stands}
use Rattle.pad_graph.specs.Inside.Growth.{with_link, Enters}
use Rattle.pad_graph.specs.Inside.Steps.{Undoes, Drops}
use Rattle.pad_graph.proofs.Marked.{marked_same}
use Rattle.pad_list.proofs.CallerLemmas.{contains_head, contains_more, distinct_short}
use Rattle.pad_graph.proofs.Chains.{link_name, named}
use Rattle.pad_graph.proofs.Growth.{link_known}
use Rattle.pad_graph.specs.Inside.Marks.{kept_by}

pub names_listed : {A : Type 0} (t : Name → Bool) (es : List (Name × Vec Name A)) → names_at (lookup t (map (λ entry. (entry.0, entry.1.items)) es)) ≡ names_in (lookup t es)
names_listed t [] = refl
names_listed {A = A} t (e ∷ es) = go (t e.0) (names_listed t es)
  where
    go : (b : Bool) → names_at (lookup t (map (λ entry. (entry.0, entry.1.items)) es)) ≡ names_in (lookup t es) → names_at (cond b (Some e.1.items) (lookup t (map (λ entry. (entry.0, entry.1.items)) es))) ≡ names_in (cond b (Some e.1) (lookup t es))
    go true rest = refl
    go false rest = rest

-- the names under a parent, as contracts see them
pub same_names : {A : Type 0} (m n : BTreeMap Name (Vec Name A)) → HasSameNames m n → (q : Name) → names_at (lookup (is_at (name_cmp q)) (map (λ entry. (entry.0, entry.1.items)) n.entries)) ≡ names_at (lookup (is_at (name_cmp q)) (map (λ entry. (entry.0, entry.1.items)) m.entries))
same_names m n h q = names_listed (is_at (name_cmp q)) n.entries ∙ h q ∙ sym (names_listed (is_at (name_cmp q)) m.entries)

pub child_listed : {A : Type 0} (m n : BTreeMap Name (Vec Name A)) (parent name : Name) → HasChild m n parent name → (q : Name) → names_at (lookup (is_at (name_cmp q)) (map (λ entry. (entry.0, entry.1.items)) n.entries))
    ≡ cond (is_eq (name_cmp parent q)) (names_at (lookup (is_at (name_cmp q)) (map (λ entry. (entry.0, entry.1.items)) m.entries)) ++ name ∷ []) (names_at (lookup (is_at (name_cmp q)) (map (λ entry. (entry.0, entry.1.items)) m.entries)))
child_listed m n parent name h q =
    names_listed (is_at (name_cmp q)) n.entries ∙ h q ∙ ap (λ ns. cond (is_eq (name_cmp parent q)) (ns ++ name ∷ []) ns) (sym (names_listed (is_at (name_cmp q)) m.entries))

pub same_state : {A : Type 0} (m n : BTreeMap Name Node) (k l : BTreeMap Name (Vec Name A)) (root : Name) (known waiting kept : ℕ) (last : Option Last) (linked dropped : List Linking) → IsSame m n → HasSameNames k l
    → state_of (record { nodes = n.entries; children = map (λ entry. (entry.0, entry.1.items)) l.entries; root = root; known = known; waiting = waiting; kept = kept; last = last; linked = linked; dropped = dropped })
    ≡ state_of (record { nodes = m.entries; children = map (λ entry. (entry.0, entry.1.items)) k.entries; root = root; known = known; waiting = waiting; kept = kept; last = last; linked = linked; dropped = dropped })
same_state m n k l root known waiting kept last linked dropped s t =
    λ i. record { node = λ q. s q i; children = λ q. same_names k l t q i; root = root; known = known; waiting = waiting; kept = kept; last = last; linked = linked; dropped = dropped }

-- ---- counts are small

module _ (state : State) (base : Name) (links : List Link) (root : List Name) (h : Stands state base links root) where
  pub waiting_small : state.waiting ≤ state.known
  waiting_small =
      omega (arith, h.waiting.many, distinct_short h.waiting.all (map link_name links) h.waiting.once (λ n c. let w = (h.waiting.these n).0 c in subst (Contains (map link_name links)) w.0.2 (named links w.0.0 w.0.1)), length-map links link_name, h.known)

  pub kept_small : state.kept ≤ state.known + 1
  kept_small =
      omega (arith, h.kept.many, distinct_short h.kept.all (base ∷ map link_name links) h.kept.once (λ n c. let k = (h.kept.these n).0 c in known n (link_known base links n k.0 (k.1.0, k.1.1, k.1.2, k.1.3))), length-map links link_name, h.known)
    where
      known : (n : Name) → (base ≡ n) ⊎ IsAddedName links n → Contains (base ∷ map link_name links) n
      known n (inl e) = subst (Contains (base ∷ map link_name links)) e (contains_head base (map link_name links))
      known n (inr (l, c, e)) = contains_more base (map link_name links) n (subst (Contains (map link_name links)) e (named links l c))

-- ---- a link that comes in

module _ {A : Type 0} (nodes mid after : BTreeMap Name Node) (children grown : BTreeMap Name (Vec Name A)) (root : Name) (known waiting kept more : ℕ) (last : Option Last) (linked now dropped found : List Linking) (link : Link) (mark : Mark) where
  abbrev pub old : State
  old = state_of (record { nodes = nodes.entries; children = map (λ entry. (entry.0, entry.1.items)) children.entries; root = root; known = known; waiting = waiting; kept = kept; last = last; linked = linked; dropped = dropped })

  abbrev pub new : State
  new = state_of (record {
    nodes = after.entries;
    children = map (λ entry. (entry.0, entry.1.items)) grown.entries;
    root = root;
    known = known + 1;
    waiting = waiting + 1 - length found;
    kept = kept + more;
    last = Some (record { name = link.name; waiting = waiting; kept = kept });
    linked = now;
    dropped = dropped;
  })

  pub enters_by : IsPut nodes mid link.name (Some (record { parent = link.parent; standing = Waiting })) → HasChild children grown link.parent link.name → ((q : Name) → get name_cmp after q ≡ marked mark (get name_cmp mid) found q) → more ≡ kept_by mark (length found) → now ≡ found → Enters old new link mark found
  enters_by put child marks kept_more same = record {
    node = λ q. marks q ∙ marked_same mark (get name_cmp mid) (with_link (get name_cmp nodes) link) found q put;
    children = child_listed children grown link.parent link.name child;
    root = refl;
    known = refl;
    waiting = refl;
    kept = ap (λ n. kept + n) kept_more;
    last = refl;
    linked = same;
  }

-- a name without a node is new
pub fresh_by : (state : State) (base : Name) (links : List Link) (root : List Name) (name : Name) → Stands state base links root → state.node name ≡ None → IsNewName base links name
fresh_by state base links root name h none = subst (λ o. IsStanding base links root name (standing_of o)) none (h.standings name)

pub kept_by_small : (mark : Mark) (many : ℕ) → kept_by mark many ≤ many
kept_by_small variant.Waiting many = omega arith
kept_by_small variant.Linked many = omega arith
kept_by_small variant.Gone many = omega arith

-- ---- look-ups

pub some_node : (o : Option Node) → true ≡ is_some o → (node : Node) × (o ≡ Some node)
some_node None e = cc
some_node (Some node) e = (node, refl)

pub no_node : (o : Option Node) → false ≡ is_some o → o ≡ None
no_node None e = refl
no_node (Some node) e = cc

pub put_alone : {X : Type 0} (m n : BTreeMap Name X) (k : Name) (v : X) → m.entries ≡ [] → Updates name_cmp m n k (Some v) → (q : Name) → get name_cmp n q ≡ cond (is_eq (name_cmp k q)) (Some v) None
put_alone m n k v e u q = u.0 q ∙ ap (λ es. cond (is_eq (name_cmp k q)) (Some v) (lookup (is_at (name_cmp q)) es)) e

pub nothing_listed : {A : Type 0} (m : BTreeMap Name (Vec Name A)) → m.entries ≡ [] → (q : Name) → names_at (lookup (is_at (name_cmp q)) (map (λ entry. (entry.0, entry.1.items)) m.entries)) ≡ []
nothing_listed m e q = names_listed (is_at (name_cmp q)) m.entries ∙ ap (λ es. names_in (lookup (is_at (name_cmp q)) es)) e

-- ---- children as contracts see them

module _ {A : Type 0} (m : BTreeMap Name (Vec Name A)) where
  pub forest_listed : (first stop : Name) (all : List Name) (limit : ℕ) → IsForest (λ name. names_at (lookup (is_at (name_cmp name)) (map (λ entry. (entry.0, entry.1.items)) m.entries))) first stop all limit → IsForest (λ name. names_in (get name_cmp m name)) first stop all limit
  forest_listed first stop all limit = subst (λ kids. IsForest kids first stop all limit) (λ i name. names_listed (is_at (name_cmp name)) m.entries i)

  pub hanging_listed : (first : Linking) (stop : Name) (found : List Linking) → AreHanging (λ name. names_in (get name_cmp m name)) first stop found → AreHanging (λ name. names_at (lookup (is_at (name_cmp name)) (map (λ entry. (entry.0, entry.1.items)) m.entries))) first stop found
  hanging_listed first stop found = subst (λ kids. AreHanging kids first stop found) (λ i name. sym (names_listed (is_at (name_cmp name)) m.entries) i)

-- ---- what is taken back

pub same_last : (state : State) (last : Last) (name : Name) → state.last ≡ Some last → last_added state ≡ Some name → last.name ≡ name
same_last state last name is e = some_same last.name name (ap (option_map (λ (l : Last). l.name)) (sym is) ∙ e)
  where
    some_same : (a b : Name) → Some a ≡ Some b → a ≡ b
    some_same a b e = cc

module _ {A : Type 0} (nodes mid after : BTreeMap Name Node) (children less : BTreeMap Name (Vec Name A)) (root : Name) (known waiting kept : ℕ) (was : Option Last) (linked now dropped : List Linking) (last : Last) (name parent : Name) where
  pub undoes_by : last.name ≡ name → 1 ≤ known → ((q : Name) → get name_cmp mid q ≡ marked variant.Waiting (get name_cmp nodes) linked q) → Updates name_cmp mid after name None → HasChild less children parent last.name
      → Undoes (state_of (record { nodes = nodes.entries; children = map (λ entry. (entry.0, entry.1.items)) children.entries; root = root; known = known; waiting = waiting; kept = kept; last = was; linked = linked; dropped = dropped }))
      (state_of (record { nodes = after.entries; children = map (λ entry. (entry.0, entry.1.items)) less.entries; root = root; known = known - 1; waiting = last.waiting; kept = last.kept; last = None; linked = now; dropped = dropped })) parent last
  undoes_by same some marks out child = record {
    node = λ q. out.0 q ∙ ap (λ o. cond {A = Option Node} (is_eq (name_cmp name q)) None o) (marks q) ∙ ap (λ n. cond {A = Option Node} (is_eq (name_cmp n q)) None (marked variant.Waiting (get name_cmp nodes) linked q)) (sym same);
    children = child_listed less children parent last.name child;
    root = refl;
    known = omega (arith, some);
    waiting = refl;
    kept = refl;
    last = refl;
  }

-- ---- what is dropped

module _ {A : Type 0} (nodes after : BTreeMap Name Node) (children less : BTreeMap Name (Vec Name A)) (root name : Name) (known waiting kept many : ℕ) (was : Option Last) (linked now dropped found : List Linking) where
  pub drops_by : ((q : Name) → get name_cmp after q ≡ marked variant.Gone (get name_cmp nodes) found q) → ((q : Name) → names_in (get name_cmp less q) ≡ cond {A = List Name} (is_among found q) [] (names_in (get name_cmp children q))) → many ≡ length found
      → Drops (state_of (record { nodes = nodes.entries; children = map (λ entry. (entry.0, entry.1.items)) children.entries; root = root; known = known; waiting = waiting; kept = kept; last = was; linked = linked; dropped = dropped }))
      (state_of (record { nodes = after.entries; children = map (λ entry. (entry.0, entry.1.items)) less.entries; root = name; known = known; waiting = waiting; kept = kept - many; last = None; linked = now; dropped = found })) name found
  drops_by marks forgot same = record {
    node = marks;
    children = λ q. names_listed (is_at (name_cmp q)) less.entries ∙ forgot q ∙ ap (λ ns. cond {A = List Name} (is_among found q) [] ns) (sym (names_listed (is_at (name_cmp q)) children.entries));
    root = refl;
    known = refl;
    waiting = refl;
    kept = ap (λ n. kept - n) same;
    last = refl;
  }
