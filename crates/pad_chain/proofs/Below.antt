-- A message that becomes linked below the root, with all that it links: they are let go, and those that overtook are counted.
use Rattle.std.proofs.Common.{◌≡◌, ◌||◌, ℕ, ◌+◌, ◌⊎◌, inl, inr, List, [], ◌∷◌, ◌++◌, length, Contains, Bool, true, false, cond, Option, Some, None, is_eq, refl, sym, ap, ◌∙◌, subst, true≢false, append-nil, arith, length-append}
use Rattle.pad_text.specs.declared.name.Name.{Name}
use Rattle.pad_message.specs.declared.message.Message.{Message}
use Rattle.pad_message.specs.Message.{name_of}
use Rattle.pad_graph.specs.declared.linking.Linking.{Linking}
use Rattle.pad_graph.specs.declared.added.Added.TheVariants.{Below}
use Rattle.pad_graph.specs.Chain.{top, IsChain, GoesThrough}
use Rattle.pad_graph.specs.Added.{IsAdded}
use Rattle.pad_graph.specs.State as graph
use Rattle.pad_graph.specs.Graph.{Stands}
use Rattle.pad_model.specs.declared.base.Base.{Base}
use Rattle.pad_model.specs.Path.{last_name, IsLinkedPath, IsLinked, NamesDiffer}
use Rattle.pad_list.specs.Number.{IsNumberOf}
use Rattle.pad_model.specs.Choice.{RunsThrough, Choice, Overtakes}
use Rattle.pad_model.specs.Count.{IsWaiting}
use Rattle.pad_model.specs.Laws.{StaysChosen}
use Rattle.pad_list.proofs.CallerLemmas.{contains_head, contains_more, contains_cases, contains_none, mapped_from}
use Rattle.pad_model.proofs.CallerLemmas.{linked_unique, linked_below}
use Rattle.pad_checkpoint.specs.Links.{link_of, names_of}
use Rattle.pad_checkpoint.proofs.CallerLemmas.{top_names, links_more, path_of, through_names}
use Rattle.pad_branch.specs.declared.held.Held.{Held}
use Rattle.pad_branch.specs.Held.{mark_of, marks}
use Rattle.pad_branch.specs.Pathless.{KnowsPathless}
use Rattle.pad_branch.specs.Laws.{FoundStays, TrunkStays, StaysKnown}
use Rattle.pad_chain.specs.State.{View, held_of}
use Rattle.pad_chain.specs.Tie.{IsChosen, IsChosenNext, IsKeptMessage, StandsFor}
use Rattle.pad_chain.specs.Inside.Tables.{is_among, AreLetGo}
use Rattle.pad_chain.proofs.Names.{name_same, name_equal}
use Rattle.pad_chain.proofs.Coming.{Passes, linked_new, more_path, linked_name, passing_becomes, becomes_passing, not_in}
use Rattle.pad_chain.proofs.Stays.{NoneThrough, with_more, stays_for}

or_cases : (t u : Bool) → (t || u) ≡ true → (t ≡ true) ⊎ (u ≡ true)
or_cases true u e = inl refl
or_cases false u e = inr e

pub among_yes : (xs : List Linking) (q : Name) → is_among xs q ≡ true → (l : Linking) × Contains xs l × (l.name ≡ q)
among_yes [] q e = absurd (true≢false (sym e))
among_yes (x ∷ xs) q e = go (or_cases (is_eq (graph.name_cmp x.name q)) (is_among xs q) e) (among_yes xs q)
  where
    go : (is_eq (graph.name_cmp x.name q) ≡ true) ⊎ (is_among xs q ≡ true) → (is_among xs q ≡ true → (l : Linking) × Contains xs l × (l.name ≡ q)) → (l : Linking) × Contains (x ∷ xs) l × (l.name ≡ q)
    go (inl h) rest = (x, contains_head x xs, name_same x.name q h)
    go (inr h) rest = let r = rest h in (r.0, contains_more x xs r.0 r.1, r.2)

or_right : (t : Bool) → (t || true) ≡ true
or_right true = refl
or_right false = refl

pub among_if : (xs : List Linking) (l : Linking) → Contains xs l → is_among xs l.name ≡ true
among_if [] l c = absurd (contains_none l c)
among_if (x ∷ xs) l c = go (contains_cases x xs l c) (among_if xs l)
  where
    go : (x ≡ l) ⊎ Contains xs l → (Contains xs l → is_among xs l.name ≡ true) → is_among (x ∷ xs) l.name ≡ true
    go (inl e) rest = ap (λ t. t || is_among xs l.name) (name_equal x.name l.name (ap (λ (y : Linking). y.name) e))
    go (inr k) rest = ap (λ t. is_eq (graph.name_cmp x.name l.name) || t) (rest k) ∙ or_right (is_eq (graph.name_cmp x.name l.name))

module _ (b : Base) (R : List Message) (m : Message) (choice : Choice) (chain : View) (s : StandsFor chain b R choice) (d : NamesDiffer (m ∷ R)) (below : List Linking) (told : IsAdded b.name s.links (names_of choice.root) (link_of m) (Below below)) where
  -- a new path ends in one of these
  new_in : (p : List Message) → IsLinkedPath b (m ∷ R) p → Passes m p → Contains below (record { height = length p; name = last_name b p })
  new_in p h k = (told.1.newly.these (record { height = length p; name = last_name b p })).1 (passing_becomes b R m s.links s.are_links d told.0 p h k)

  -- and does not run through the root
  new_out : (p : List Message) → IsLinkedPath b (m ∷ R) p → Passes m p → ¬ (RunsThrough choice.root p)
  new_out p h k t = go (told.1.stand (record { height = length p; name = last_name b p }) (new_in p h k))
    where
      go : (ns : List Name) × IsChain b.name (link_of m ∷ s.links) ns × (top b.name ns ≡ last_name b p) × (length p ≡ length ns) × ¬ (GoesThrough (names_of choice.root) ns) → ⊥
      go (ns, chain, is, size, out) = found (path_of b (m ∷ R) (link_of m ∷ s.links) (links_more b R m s.links s.are_links) ns chain)
        where
          found : (q : List Message) × IsLinkedPath b (m ∷ R) q × (names_of q ≡ ns) → ⊥
          found (q, g, e) =
              let same : q ≡ p = linked_unique b (m ∷ R) q p d g h (sym (top_names b q) ∙ ap (top b.name) e ∙ is) in
              out (subst (GoesThrough (names_of choice.root)) e (through_names choice.root q (subst (RunsThrough choice.root) (sym same) t)))

  pub none_through : NoneThrough b R m choice
  none_through p h t = go (linked_new b R m p h)
    where
      go : IsLinkedPath b R p ⊎ Passes m p → IsLinkedPath b R p
      go (inl old) = old
      go (inr k) = absurd (new_out p h k t)

  -- the path of one of these
  path_at : (q : Name) → is_among below q ≡ true → (p : List Message) × IsLinkedPath b (m ∷ R) p × (last_name b p ≡ q) × Passes m p
  path_at q e =
      let (l, member, named) = among_yes below q e in
      let (p, h, is, size, k) = becomes_passing b R m s.links s.are_links d told.0 l.name l.height ((told.1.newly.these l).0 member) in
      (p, h, is ∙ named, k)

  -- it was not linked before
  not_before : (q : Name) → is_among below q ≡ true → (p : List Message) → IsLinkedPath b R p → last_name b p ≡ q → ⊥
  not_before q e p h is =
      let (l, member, named) = among_yes below q e in
      ((told.1.newly.these l).0 member).before (length p) (subst (λ n. BecomesAt n p) (is ∙ sym named) (linked_name b R s.links s.are_links p h))
    where
      BecomesAt : Name → List Message → Type 0
      BecomesAt n p = (ns : List Name) × IsChain b.name s.links ns × (top b.name ns ≡ n) × (length p ≡ length ns)

  -- it does not wait any more
  not_waiting : (x : Message) → is_among below (name_of x) ≡ true → ¬ (IsWaiting b (m ∷ R) x)
  not_waiting x e (c, apart, waits) = go (path_at (name_of x) e)
    where
      go : (p : List Message) × IsLinkedPath b (m ∷ R) p × (last_name b p ≡ name_of x) × Passes m p → ⊥
      go ([], h, is, k) = apart (sym is)
      go (z ∷ p, h, is, k) = waits (p, subst (λ y. IsLinkedPath b (m ∷ R) (y ∷ p)) (d z x h.0.member c is) h)

  -- what was held of these waited
  marks_at : (q : Name) → is_among below q ≡ true → (o : Option Held) → held_of chain q ≡ o → mark_of o ≡ false
  marks_at q e None at = refl
  marks_at q e (Some held) at = go (s.only q held at)
    where
      same_some : (x y : Held) → Some x ≡ Some y → x ≡ y
      same_some x y e = cc

      go : (name_of held.message ≡ q) × (IsKeptMessage b R choice.root held.message ⊎ IsWaiting b R held.message) → held.pathless ≡ false
      go (named, inl k) = absurd (not_before q e (held.message ∷ k.0) k.1 named)
      go (named, inr w) =
          let (other, there, is, free) = s.waits held.message w in
          ap (λ (x : Held). x.pathless) (same_some held other (sym at ∙ ap (held_of chain) (sym named) ∙ there)) ∙ free

  pub unmarked : (q : Name) → is_among below q ≡ true → marks (held_of chain) q ≡ false
  unmarked q e = marks_at q e (held_of chain q) refl

  -- the message on its own path
  pub m_path : (under : List Message) × IsLinkedPath b (m ∷ R) (m ∷ under)
  m_path =
      let (l, member, named) = mapped_from (λ (x : Linking). x.name) below (name_of m) told.3 in
      let (p, h, is, k) = path_at (name_of m) (subst (λ n. is_among below n ≡ true) named (among_if below l member)) in
      (k.under, linked_below b (m ∷ R) k.above (m ∷ k.under) (subst (IsLinkedPath b (m ∷ R)) k.whole h))

  -- the parent is not kept, and does not wait
  parent_unmarked : marks (held_of chain) m.parent ≡ false
  parent_unmarked = at (held_of chain m.parent) refl
    where
      at : (o : Option Held) → held_of chain m.parent ≡ o → mark_of (held_of chain m.parent) ≡ false
      at None e = ap mark_of e
      at (Some held) e = absurd (go (s.only m.parent held e) m_path.0 m_path.1 (linked_new b R m m_path.0 m_path.1.1))
        where
          go : (name_of held.message ≡ m.parent) × (IsKeptMessage b R choice.root held.message ⊎ IsWaiting b R held.message) → (under : List Message) → IsLinkedPath b (m ∷ R) (m ∷ under) → IsLinkedPath b R under ⊎ Passes m under → ⊥
          go (named, inl k) under h c =
              let same : held.message ∷ k.0 ≡ under = linked_unique b (m ∷ R) (held.message ∷ k.0) under d (more_path b R m (held.message ∷ k.0) k.1) h.1 (named ∙ h.0.parent) in
              let through : RunsThrough choice.root (m ∷ under) = (m ∷ k.2.0, ap (λ q. m ∷ q) (sym same ∙ k.2.1)) in
              new_out (m ∷ under) h (record { above = []; under = under; whole = refl }) through
          go (named, inr w) [] h c = w.1 (named ∙ h.0.parent)
          go (named, inr w) (z ∷ under) h (inl old) = w.2 (under, subst (λ y. IsLinkedPath b R (y ∷ under)) (d z held.message (contains_more m R z old.0.member) (contains_more m R held.message w.0) (sym h.0.parent ∙ sym named)) old)
          go (named, inr w) (z ∷ under) h (inr k) = not_in b R m s.links s.are_links d told.0 (twice k)
            where
              twice : Passes m (z ∷ under) → Contains R m
              twice k =
                  let lower = linked_below b (m ∷ R) k.above (m ∷ k.under) (subst (IsLinkedPath b (m ∷ R)) k.whole h.1) in
                  let same : m ∷ z ∷ under ≡ m ∷ k.under = linked_unique b (m ∷ R) (m ∷ z ∷ under) (m ∷ k.under) d h lower refl in
                  absurd (longer k same)
                where
                  longer : (k : Passes m (z ∷ under)) → m ∷ z ∷ under ≡ m ∷ k.under → ⊥
                  longer k same = omega (arith, ap length same, ap length k.whole, length-append k.above (m ∷ k.under))

  pub below_knows : StaysKnown → KnowsPathless b (m ∷ R) choice.root (marks (held_of chain))
  below_knows law = law b R choice.root m (marks (held_of chain)) s.knows parent_unmarked (λ above under h. unmarked (last_name b (above ++ m ∷ under)) (among_if below (record { height = length (above ++ m ∷ under); name = last_name b (above ++ m ∷ under) }) (new_in (above ++ m ∷ under) h (record { above = above; under = under; whole = refl }))))

  -- a chain that drops nothing has nothing below its root
  pub not_whole : choice.root ≡ [] → ⊥
  not_whole e = new_out (m ∷ m_path.0) m_path.1 (record { above = []; under = m_path.0; whole = refl }) (subst (λ r. RunsThrough r (m ∷ m_path.0)) (sym e) (m ∷ m_path.0, sym (append-nil (m ∷ m_path.0))))

  pub below_next : StaysChosen → (more : ℕ) → IsNumberOf (Overtakes b R m choice) more → (w : Bool) → IsChosen w b R choice → IsChosenNext w b R m choice (with_more choice more)
  below_next stays more number true h = absurd (not_whole h.root)
  below_next stays more number false h = stays b R m choice more h none_through number

  module _ (new : View) (gone : AreLetGo (held_of chain) (held_of new) below) where
    let_keeps : (q : Name) (held : Held) → held_of chain q ≡ Some held → (IsKeptMessage b (m ∷ R) choice.root held.message ⊎ IsWaiting b (m ∷ R) held.message) → held_of new q ≡ Some held
    let_keeps q held at still = gone q ∙ go (is_among below q) refl still
      where
        named : name_of held.message ≡ q
        named = (s.only q held at).0

        go : (t : Bool) → is_among below q ≡ t → (IsKeptMessage b (m ∷ R) choice.root held.message ⊎ IsWaiting b (m ∷ R) held.message) → cond t None (held_of chain q) ≡ Some held
        go false e k = at
        go true e (inl k) = absurd (not_before q e (held.message ∷ k.0) (none_through (held.message ∷ k.0) k.1 k.2) named)
        go true e (inr w) = absurd (not_waiting held.message (subst (λ n. is_among below n ≡ true) (sym named) e) w)

    let_only : (q : Name) (held : Held) → held_of new q ≡ Some held → (name_of held.message ≡ q) × (IsKeptMessage b (m ∷ R) choice.root held.message ⊎ IsWaiting b (m ∷ R) held.message)
    let_only q held at = go (is_among below q) refl (sym (gone q) ∙ at)
      where
        none_some : None ≡ Some held → ⊥
        none_some e = cc

        still : is_among below q ≡ false → (name_of held.message ≡ q) × (IsKeptMessage b R choice.root held.message ⊎ IsWaiting b R held.message) → (name_of held.message ≡ q) × (IsKeptMessage b (m ∷ R) choice.root held.message ⊎ IsWaiting b (m ∷ R) held.message)
        still e (named, inl k) = (named, inl (k.0, more_path b R m (held.message ∷ k.0) k.1, k.2))
        still e (named, inr w) = (named, inr (contains_more m R held.message w.0, w.1, λ l. which l (linked_new b R m (held.message ∷ l.0) l.1)))
          where
            which : (l : IsLinked b (m ∷ R) held.message) → IsLinkedPath b R (held.message ∷ l.0) ⊎ Passes m (held.message ∷ l.0) → ⊥
            which l (inl old) = w.2 (l.0, old)
            which l (inr k) = true≢false (sym (subst (λ n. is_among below n ≡ true) named (among_if below (record { height = length (held.message ∷ l.0); name = name_of held.message }) (new_in (held.message ∷ l.0) l.1 k))) ∙ e)

        go : (t : Bool) → is_among below q ≡ t → cond t None (held_of chain q) ≡ Some held → (name_of held.message ≡ q) × (IsKeptMessage b (m ∷ R) choice.root held.message ⊎ IsWaiting b (m ∷ R) held.message)
        go true e h = absurd (none_some h)
        go false e h = still e (s.only q held h)

    let_marks : (q : Name) → marks (held_of chain) q ≡ marks (held_of new) q
    let_marks q = go (is_among below q) refl ∙ sym (ap mark_of (gone q))
      where
        go : (t : Bool) → is_among below q ≡ t → marks (held_of chain) q ≡ mark_of (cond t None (held_of chain q))
        go true e = unmarked q e
        go false e = refl

    let_itself : IsWaiting b (m ∷ R) m → (held : Held) × (held_of new (name_of m) ≡ Some held) × (held.message ≡ m) × (held.pathless ≡ false)
    let_itself w = absurd (w.2 m_path)

    pub below_stands : StaysChosen → FoundStays → TrunkStays → StaysKnown → (more : ℕ) → IsNumberOf (Overtakes b R m choice) more → Stands (graph.state_of new.graph) b.name (link_of m ∷ s.links) (names_of choice.root) → new.whole ≡ chain.whole → new.pruning.root ≡ chain.pruning.root → new.pruning.overtaken ≡ chain.pruning.overtaken + more → new.branch ≡ chain.branch → new.found ≡ chain.found → StandsFor new b (m ∷ R) (with_more choice more)
    below_stands stays found_stays trunk_stays stays_known more number stands whole root over branch found =
        stays_for b R m choice more chain new s d none_through found_stays trunk_stays whole (below_next stays more number chain.whole s.chosen) (link_of m ∷ s.links) (links_more b R m s.links s.are_links) stands root over (λ i. (branch i).branch) found let_keeps let_itself let_only let_marks (below_knows stays_known)
