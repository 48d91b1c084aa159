-- Nodes that are marked.
use Rattle.std.proofs.Common.{◌≡◌, ◌≢◌, ◌⊎◌, inl, inr, List, [], ◌∷◌, map, Bool, true, false, cond, Option, Some, None, Contains, is_eq, refl, sym, ap, ◌∙◌, subst}
use Rattle.std.specs.Option.{option_map}
use Rattle.pad_text.specs.declared.name.Name.{Name}
use Rattle.pad_graph.specs.declared.linking.Linking.{Linking}
use Rattle.pad_graph.specs.declared.node.Node.{Node}
use Rattle.pad_graph.specs.declared.node.Mark.{Mark}
use Rattle.pad_graph.specs.Inside.Tables.{marked, with_standing}
use Rattle.pad_list.specs.Number.{NoRepeat}
use Rattle.pad_list.proofs.CallerLemmas.{contains_none, contains_head, contains_more, contains_cases, contains_map}
use Rattle.pad_graph.proofs.Names.{name_equal, name_differs, name_dec}
use Rattle.pad_graph.proofs.Spreading.{name_of}
use Rattle.pad_graph.specs.State.{name_cmp, marked_as}

pub contains_dec : (xs : List Name) (q : Name) → Contains xs q ⊎ (¬ (Contains xs q))
contains_dec [] q = inr (contains_none q)
contains_dec (x ∷ xs) q = go (name_dec x q) (contains_dec xs q)
  where
    neither : x ≢ q → ¬ (Contains xs q) → (x ≡ q) ⊎ Contains xs q → ⊥
    neither n k (inl e) = n e
    neither n k (inr c) = k c

    go : (x ≡ q) ⊎ (x ≢ q) → Contains xs q ⊎ (¬ (Contains xs q)) → Contains (x ∷ xs) q ⊎ (¬ (Contains (x ∷ xs) q))
    go (inl e) rest = inl (subst (Contains (x ∷ xs)) e (contains_head x xs))
    go (inr n) (inl c) = inl (contains_more x xs q c)
    go (inr n) (inr k) = inr (λ c. neither n k (contains_cases x xs q c))

abbrev pub one_marked : Mark → (Name → Option Node) → Linking → Name → Option Node
one_marked mark old linking name = cond (is_eq (name_cmp linking.name name)) (option_map (with_standing (marked_as mark linking.height)) (old name)) (old name)

pub marked_same : (mark : Mark) (old other : Name → Option Node) (xs : List Linking) (q : Name) → ((p : Name) → old p ≡ other p) → marked mark old xs q ≡ marked mark other xs q
marked_same mark old other xs q same = λ i. marked mark (λ p. same p i) xs q

pub marked_out : (mark : Mark) (old : Name → Option Node) (xs : List Linking) (q : Name) → ¬ (Contains (map name_of xs) q) → marked mark old xs q ≡ old q
marked_out mark old [] q n = refl
marked_out mark old (x ∷ xs) q n =
    marked_out mark (one_marked mark old x) xs q (λ c. n (contains_more x.name (map name_of xs) q c))
    ∙ ap (λ t. cond t (option_map (with_standing (marked_as mark x.height)) (old q)) (old q)) (name_differs x.name q (λ e. n (subst (Contains (x.name ∷ map name_of xs)) e (contains_head x.name (map name_of xs)))))

pub marked_in : (mark : Mark) (old : Name → Option Node) (xs : List Linking) (l : Linking) → NoRepeat (map name_of xs) → Contains xs l → marked mark old xs l.name ≡ option_map (with_standing (marked_as mark l.height)) (old l.name)
marked_in mark old [] l once c = absurd (contains_none l c)
marked_in mark old (x ∷ xs) l once c = go (contains_cases x xs l c) (marked_in mark (one_marked mark old x) xs l once.1)
  where
    go : (x ≡ l) ⊎ Contains xs l → (Contains xs l → marked mark (one_marked mark old x) xs l.name ≡ option_map (with_standing (marked_as mark l.height)) (one_marked mark old x l.name)) → marked mark (one_marked mark old x) xs l.name ≡ option_map (with_standing (marked_as mark l.height)) (old l.name)
    go (inl e) rest =
        marked_out mark (one_marked mark old x) xs l.name (λ k. once.0 (subst (Contains (map name_of xs)) (ap name_of (sym e)) k))
        ∙ ap (λ t. cond t (option_map (with_standing (marked_as mark x.height)) (old l.name)) (old l.name)) (name_equal x.name l.name (ap name_of e))
        ∙ ap (λ (z : Linking). option_map (with_standing (marked_as mark z.height)) (old l.name)) e
    go (inr k) rest =
        rest k
        ∙ ap (λ t. option_map (with_standing (marked_as mark l.height)) (cond t (option_map (with_standing (marked_as mark x.height)) (old l.name)) (old l.name)))
        (name_differs x.name l.name (λ e. once.0 (subst (Contains (map name_of xs)) (sym e) (contains_map name_of xs l k))))

pub marked_parent : (mark : Mark) (old : Name → Option Node) (xs : List Linking) (q : Name) (node : Node) → marked mark old xs q ≡ Some node → (was : Node) × (old q ≡ Some was) × (was.parent ≡ node.parent)
marked_parent mark old [] q node e = (node, e, refl)
marked_parent mark old (x ∷ xs) q node e =
    let (one, is, same) = marked_parent mark (one_marked mark old x) xs q node e in
    let (was, at, parent) = go (is_eq (name_cmp x.name q)) (old q) one is in
    (was, at, parent ∙ same)
  where
    some_same : (a b : Node) → Some a ≡ Some b → a ≡ b
    some_same a b e = cc

    go : (t : Bool) (o : Option Node) (one : Node) → cond t (option_map (with_standing (marked_as mark x.height)) o) o ≡ Some one → (was : Node) × (o ≡ Some was) × (was.parent ≡ one.parent)
    go false o one e = (one, e, refl)
    go true None one e = cc
    go true (Some was) one e = (was, refl, ap (λ (n : Node). n.parent) (some_same (with_standing (marked_as mark x.height) was) one e))
