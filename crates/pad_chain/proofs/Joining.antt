-- A message that becomes linked through the root, with all that it links: what the choice stands on.
use Rattle.std.proofs.Common.{◌≡◌, ℕ, ◌≤◌, zero, suc, ◌⊎◌, inl, inr, List, [], ◌∷◌, ◌++◌, length, map, Contains, All, get_or, refl, sym, ap, ◌∙◌, subst, arith}
use Rattle.pad_text.specs.declared.name.Name.{Name}
use Rattle.pad_message.specs.declared.message.Message.{Message}
use Rattle.pad_message.specs.Message.{name_of}
use Rattle.pad_graph.specs.declared.linking.Linking.{Linking}
use Rattle.pad_graph.specs.declared.added.Added.TheVariants.{Linked}
use Rattle.pad_graph.specs.Chain.{Link, top, IsChain, GoesThrough, IsGoneName}
use Rattle.pad_graph.specs.Added.{IsAdded}
use Rattle.pad_graph.specs.State as graph
use Rattle.pad_graph.specs.Graph.{Stands}
use Rattle.pad_model.specs.declared.base.Base.{Base}
use Rattle.pad_model.specs.Path.{last_name, IsLinkedPath, NamesDiffer}
use Rattle.pad_list.specs.Number.{IsNumberOf}
use Rattle.pad_model.specs.Choice.{RunsThrough, Choice, Overtakes}
use Rattle.pad_list.proofs.CallerLemmas.{contains_head, contains_more, number_none, contains_map}
use Rattle.pad_model.proofs.CallerLemmas.{linked_unique, linked_below}
use Rattle.pad_checkpoint.specs.Links.{link_of, names_of, AreLinks}
use Rattle.pad_checkpoint.proofs.CallerLemmas.{top_names, links_more, path_of, through_names, through_paths}
use Rattle.pad_branch.specs.Choice.{IsEnd, AreLinkedOn}
use Rattle.pad_chain.specs.State.{View}
use Rattle.pad_chain.specs.Tie.{StandsFor}
use Rattle.pad_chain.proofs.Coming.{Passes, linked_new, more_path, on_path, passing_becomes, becomes_passing, not_in}

-- ---- the children in the graph

module _ (b : Base) (R : List Message) (d : NamesDiffer R) (links : List Link) (a : AreLinks b R links) (root : List Message) (at_root : IsLinkedPath b R root) (state : graph.State) (s : Stands state b.name links (names_of root)) where
  not_gone : (p : List Message) → IsLinkedPath b R p → RunsThrough root p → (height : ℕ) → ¬ (IsGoneName b.name links (names_of root) (last_name b p) height)
  not_gone p h t height (ns, chain, is, size, out) = go (path_of b R links a ns chain)
    where
      go : (q : List Message) × IsLinkedPath b R q × (names_of q ≡ ns) → ⊥
      go (q, g, e) =
          let same : q ≡ p = linked_unique b R q p d g h (sym (top_names b q) ∙ ap (top b.name) e ∙ is) in
          out (subst (GoesThrough (names_of root)) e (through_names root q (subst (RunsThrough root) (sym same) t)))

  pub linked_on : AreLinkedOn b R root state.children
  linked_on = record {
    every = λ x p h t. s.children.every (last_name b p) (name_of x) (subst (λ n. Contains links (record { name = name_of x; parent = n })) h.0.parent (a.every x h.0.member h.0.not_base)) (not_gone p h.1 t);
    only = λ p n h t c. found p n h (s.children.only (last_name b p) n c);
  }
    where
      found : (p : List Message) (n : Name) → IsLinkedPath b R p → Contains links (record { name = n; parent = last_name b p }) → (x : Message) × IsLinkedPath b R (x ∷ p) × (name_of x ≡ n)
      found p n h c =
          let (x, member, e) = a.each (record { name = n; parent = last_name b p }) c in
          let named : name_of x ≡ n = ap (λ (l : Link). l.name) e in
          (x, (record { member = member; not_base = λ k. s.not_base (record { name = n; parent = last_name b p }) c (sym named ∙ k); parent = ap (λ (l : Link). l.parent) e }, h), named)

-- ---- what becomes linked

module _ (b : Base) (R : List Message) (m : Message) (choice : Choice) (chain : View) (s : StandsFor chain b R choice) (d : NamesDiffer (m ∷ R)) (linkings : List Linking) (told : IsAdded b.name s.links (names_of choice.root) (link_of m) (Linked linkings)) where
  root_linked : IsLinkedPath b R choice.root
  root_linked = linked_below b R s.above choice.root s.trunk.linked

  join_in : (p : List Message) → IsLinkedPath b (m ∷ R) p → Passes m p → Contains linkings (record { height = length p; name = last_name b p })
  join_in p h k = (told.1.newly.these (record { height = length p; name = last_name b p })).1 (passing_becomes b R m s.links s.are_links d told.0 p h k)

  -- a new path runs through the root
  pub join_through : (p : List Message) → IsLinkedPath b (m ∷ R) p → Passes m p → RunsThrough choice.root p
  join_through p h k = go (told.1.stand (record { height = length p; name = last_name b p }) (join_in p h k))
    where
      go : (ns : List Name) × IsChain b.name (link_of m ∷ s.links) ns × (top b.name ns ≡ last_name b p) × (length p ≡ length ns) × GoesThrough (names_of choice.root) ns → RunsThrough choice.root p
      go (ns, chain, is, size, through) = found (path_of b (m ∷ R) (link_of m ∷ s.links) (links_more b R m s.links s.are_links) ns chain)
        where
          found : (q : List Message) × IsLinkedPath b (m ∷ R) q × (names_of q ≡ ns) → RunsThrough choice.root p
          found (q, g, e) =
              let same : q ≡ p = linked_unique b (m ∷ R) q p d g h (sym (top_names b q) ∙ ap (top b.name) e ∙ is) in
              subst (RunsThrough choice.root) same (through_paths b (m ∷ R) choice.root q d (more_path b R m choice.root root_linked) g (subst (GoesThrough (names_of choice.root)) (sym e) through))

  pub join_every : (above under : List Message) → IsLinkedPath b (m ∷ R) (above ++ m ∷ under) → RunsThrough choice.root (above ++ m ∷ under) → Contains (map (λ (l : Linking). l.name) linkings) (last_name b (above ++ m ∷ under))
  join_every above under h t = contains_map (λ (l : Linking). l.name) linkings (record { height = length (above ++ m ∷ under); name = last_name b (above ++ m ∷ under) }) (join_in (above ++ m ∷ under) h (record { above = above; under = under; whole = refl }))

  join_end : (l : Linking) → Contains linkings l → IsEnd b (m ∷ R) choice.root l
  join_end l member = go (becomes_passing b R m s.links s.are_links d told.0 l.name l.height ((told.1.newly.these l).0 member))
    where
      made : (p : List Message) → IsLinkedPath b (m ∷ R) p → last_name b p ≡ l.name → l.height ≡ length p → Passes m p → (u : List Message) → p ≡ u ++ choice.root → IsEnd b (m ∷ R) choice.root l
      made p h is size k [] e = absurd (not_in b R m s.links s.are_links d told.0 (on_path b R choice.root m root_linked (subst (λ q. Contains q m) e (middle k))))
        where
          inside : (u v : List Message) → Contains (u ++ m ∷ v) m
          inside [] v = contains_head m v
          inside (x ∷ u) v = contains_more x (u ++ m ∷ v) m (inside u v)

          middle : Passes m p → Contains p m
          middle k = subst (λ q. Contains q m) (sym k.whole) (inside k.above k.under)
      made p h is size k (x ∷ u) e = record {
        last = x;
        rest = u;
        linked = subst (IsLinkedPath b (m ∷ R)) e h;
        high = size ∙ ap length e;
        named = sym is ∙ ap (last_name b) e;
      }

      go : (p : List Message) × IsLinkedPath b (m ∷ R) p × (last_name b p ≡ l.name) × (l.height ≡ length p) × Passes m p → IsEnd b (m ∷ R) choice.root l
      go (p, h, is, size, k) = let t = join_through p h k in made p h is size k t.0 t.1

  pub join_each : All (IsEnd b (m ∷ R) choice.root) linkings
  join_each k e within = join_end (get_or linkings k e) (at linkings k e within)
    where
      at : (xs : List Linking) (k : ℕ) (e : Linking) → suc k ≤ length xs → Contains xs (get_or xs k e)
      at [] k e h = absurd (omega (arith, h))
      at (x ∷ xs) zero e h = contains_head x xs
      at (x ∷ xs) (suc k) e h = contains_more x xs (get_or xs k e) (at xs k e (omega (arith, h)))

  -- and nothing overtakes
  pub none_overtakes : IsNumberOf (Overtakes b R m choice) 0
  none_overtakes = number_none (Overtakes b R m choice) (λ x o. go x o (linked_new b R m (x ∷ o.before) o.below.0))
    where
      go : (x : Message) (o : Overtakes b R m choice x) → IsLinkedPath b R (x ∷ o.before) ⊎ Passes m (x ∷ o.before) → ⊥
      go x o (inl old) = o.was_not_linked (o.before, old)
      go x o (inr k) = o.below.1 (join_through (x ∷ o.before) o.below.0 k)
