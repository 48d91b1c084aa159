-- A message whose name is known, and one that waits: neither links anything.
use Rattle.std.proofs.Common.{◌≡◌, ℕ, ◌+◌, ◌⊎◌, inl, inr, List, [], ◌∷◌, Contains, Bool, true, false, cond, Some, is_eq, refl, sym, ap, ◌∙◌, subst, arith}
use Rattle.pad_text.specs.declared.name.Name.{Name}
use Rattle.pad_message.specs.declared.message.Message.{Message}
use Rattle.pad_message.specs.Message.{name_of}
use Rattle.pad_graph.specs.Chain.{Link, IsAddedName, BecomesLinked}
use Rattle.pad_graph.specs.State as graph
use Rattle.pad_graph.specs.Graph.{Stands, IsNewName}
use Rattle.pad_model.specs.declared.base.Base.{Base}
use Rattle.pad_model.specs.Path.{IsLinkedPath, NamesDiffer}
use Rattle.pad_model.specs.Choice.{Choice}
use Rattle.pad_model.specs.Count.{IsWaiting}
use Rattle.pad_model.specs.Laws.{StaysChosen, NothingLinks}
use Rattle.pad_list.proofs.CallerLemmas.{contains_head, contains_more, contains_cases}
use Rattle.pad_checkpoint.specs.Links.{link_of, names_of}
use Rattle.pad_checkpoint.proofs.CallerLemmas.{links_more, links_same}
use Rattle.pad_branch.specs.declared.held.Held.{Held}
use Rattle.pad_branch.specs.Held.{mark_of, marks}
use Rattle.pad_branch.specs.Pathless.{KnowsPathless}
use Rattle.pad_branch.specs.Laws.{FoundStays, TrunkStays}
use Rattle.pad_chain.specs.State.{View, held_of}
use Rattle.pad_chain.specs.Tie.{IsChosenNext, IsKeptMessage, StandsFor}
use Rattle.pad_chain.specs.Inside.Tables.{IsPut}
use Rattle.pad_chain.proofs.Names.{name_same}
use Rattle.pad_chain.proofs.Coming.{more_path, same_paths, not_named}
use Rattle.pad_chain.proofs.Put.{put_keeps, put_itself, put_marks}
use Rattle.pad_chain.proofs.Stays.{with_more, quiet_chosen_next, stays_for}

none_more : (choice : Choice) → with_more choice 0 ≡ choice
none_more choice = let e : choice.overtaken + 0 ≡ choice.overtaken = omega arith in λ i. record { root = choice.root; chosen = choice.chosen; overtaken = e i }

module _ (b : Base) (R : List Message) (m : Message) (choice : Choice) (chain : View) (s : StandsFor chain b R choice) (d : NamesDiffer (m ∷ R)) where
  -- what is kept stays so
  kept_more : (x : Message) → IsKeptMessage b R choice.root x → IsKeptMessage b (m ∷ R) choice.root x
  kept_more x (p, h, t) = (p, more_path b R m (x ∷ p) h, t)

  module _ (same : (p : List Message) → IsLinkedPath b (m ∷ R) p → IsLinkedPath b R p) where
    -- and what waits
    waits_more : (x : Message) → IsWaiting b R x → IsWaiting b (m ∷ R) x
    waits_more x (c, apart, waits) = (contains_more m R x c, apart, λ l. waits (l.0, same (x ∷ l.0) l.1))

    knows_more : KnowsPathless b (m ∷ R) choice.root (marks (held_of chain))
    knows_more = record { at_root = s.knows.at_root; really = λ x p h. s.knows.really x p (same (x ∷ p) h); passed = λ x p h. s.knows.passed x p (same (x ∷ p) h) }

    both_more : (x : Message) → IsKeptMessage b R choice.root x ⊎ IsWaiting b R x → IsKeptMessage b (m ∷ R) choice.root x ⊎ IsWaiting b (m ∷ R) x
    both_more x (inl k) = inl (kept_more x k)
    both_more x (inr w) = inr (waits_more x w)

  -- ---- a name that is known

  module _ (known : (name_of m ≡ b.name) ⊎ IsAddedName s.links (name_of m)) where
    is_known : (name_of m ≡ b.name) ⊎ Contains R m
    is_known = go known
      where
        go : (name_of m ≡ b.name) ⊎ IsAddedName s.links (name_of m) → (name_of m ≡ b.name) ⊎ Contains R m
        go (inl e) = inl e
        go (inr (l, c, e)) =
            let (x, received, is) = s.are_links.each l c in
            inr (subst (Contains R) (d x m (contains_more m R x received) (contains_head m R) (ap (λ (k : Link). k.name) is ∙ e)) received)

    known_same : (p : List Message) → IsLinkedPath b (m ∷ R) p → IsLinkedPath b R p
    known_same [] h = tt
    known_same (x ∷ p) h = (record { member = go (contains_cases m R x h.0.member) is_known; not_base = h.0.not_base; parent = h.0.parent }, known_same p h.1)
      where
        go : (m ≡ x) ⊎ Contains R x → (name_of m ≡ b.name) ⊎ Contains R m → Contains R x
        go (inr c) k = c
        go (inl e) (inl k) = absurd (h.0.not_base (ap name_of (sym e) ∙ k))
        go (inl e) (inr k) = subst (Contains R) e k

    known_itself : IsWaiting b (m ∷ R) m → (held : Held) × (held_of chain (name_of m) ≡ Some held) × (held.message ≡ m) × (held.pathless ≡ false)
    known_itself (c, apart, waits) = go is_known
      where
        go : (name_of m ≡ b.name) ⊎ Contains R m → (held : Held) × (held_of chain (name_of m) ≡ Some held) × (held.message ≡ m) × (held.pathless ≡ false)
        go (inl e) = absurd (apart e)
        go (inr k) = s.waits m (k, apart, λ l. waits (l.0, more_path b R m (m ∷ l.0) l.1))

    pub known_next : StaysChosen → NothingLinks → IsChosenNext chain.whole b R m choice choice
    known_next stays none = quiet_chosen_next b R m choice stays none known_same chain.whole s.chosen

    module _ (new : View) (alike : (q : Name) → held_of new q ≡ held_of chain q) where
      itself_now : IsWaiting b (m ∷ R) m → (held : Held) × (held_of new (name_of m) ≡ Some held) × (held.message ≡ m) × (held.pathless ≡ false)
      itself_now w = let (held, at, is, free) = known_itself w in (held, alike (name_of m) ∙ at, is, free)

      only_now : (q : Name) (held : Held) → held_of new q ≡ Some held → (name_of held.message ≡ q) × (IsKeptMessage b (m ∷ R) choice.root held.message ⊎ IsWaiting b (m ∷ R) held.message)
      only_now q held at = let o = s.only q held (sym (alike q) ∙ at) in (o.0, both_more known_same held.message o.1)

      pub known_stands : StaysChosen → NothingLinks → FoundStays → TrunkStays → Stands (graph.state_of new.graph) b.name s.links (names_of choice.root) → new.whole ≡ chain.whole → new.pruning ≡ chain.pruning → new.branch ≡ chain.branch → new.found ≡ chain.found → StandsFor new b (m ∷ R) choice
      known_stands stays none found_stays trunk_stays stands whole pruning branch found = subst (StandsFor new b (m ∷ R)) (none_more choice)
          (stays_for b R m choice 0 chain new s d (λ p h t. known_same p h) found_stays trunk_stays whole (subst (IsChosenNext chain.whole b R m choice) (sym (none_more choice)) (known_next stays none)) s.links (links_same b R m s.links s.are_links is_known) stands (λ i. (pruning i).root) (omega (arith, ap (λ p. p.overtaken) pruning)) (λ i. (branch i).branch) found (λ q held at k. alike q ∙ at) itself_now only_now (λ q. ap mark_of (sym (alike q))) (knows_more known_same))

  -- ---- a message that waits

  module _ (fresh : IsNewName b.name s.links (name_of m)) (nothing : (n : Name) (height : ℕ) → ¬ (BecomesLinked b.name s.links (link_of m) n height)) where
    waiting_same : (p : List Message) → IsLinkedPath b (m ∷ R) p → IsLinkedPath b R p
    waiting_same = same_paths b R m s.links s.are_links d fresh nothing

    m_waits : IsWaiting b (m ∷ R) m
    m_waits = (contains_head m R, fresh.0, λ l. not_in_path l.0 (waiting_same (m ∷ l.0) l.1))
      where
        not_in_path : (p : List Message) → IsLinkedPath b R (m ∷ p) → ⊥
        not_in_path p h = not_named b R m s.links s.are_links d fresh m h.0.member refl

    module _ (new : View) (put : IsPut (held_of chain) (held_of new) (name_of m) (Some (record { message = m; pathless = false }))) where
      put_only : (q : Name) (held : Held) → held_of new q ≡ Some held → (name_of held.message ≡ q) × (IsKeptMessage b (m ∷ R) choice.root held.message ⊎ IsWaiting b (m ∷ R) held.message)
      put_only q held at = go (is_eq (graph.name_cmp (name_of m) q)) refl (sym (put q) ∙ at)
        where
          same_some : (x y : Held) → Some x ≡ Some y → x ≡ y
          same_some x y e = cc

          go : (t : Bool) → is_eq (graph.name_cmp (name_of m) q) ≡ t → cond t (Some (record { message = m; pathless = false })) (held_of chain q) ≡ Some held → (name_of held.message ≡ q) × (IsKeptMessage b (m ∷ R) choice.root held.message ⊎ IsWaiting b (m ∷ R) held.message)
          go true e h = let is : m ≡ held.message = ap (λ (x : Held). x.message) (same_some (record { message = m; pathless = false }) held h) in (ap name_of (sym is) ∙ name_same (name_of m) q e, inr (subst (IsWaiting b (m ∷ R)) is m_waits))
          go false e h = let o = s.only q held h in (o.0, both_more waiting_same held.message o.1)

      pub waiting_next : StaysChosen → NothingLinks → IsChosenNext chain.whole b R m choice choice
      waiting_next stays none = quiet_chosen_next b R m choice stays none waiting_same chain.whole s.chosen

      pub waiting_stands : StaysChosen → NothingLinks → FoundStays → TrunkStays → Stands (graph.state_of new.graph) b.name (link_of m ∷ s.links) (names_of choice.root) → new.whole ≡ chain.whole → new.pruning ≡ chain.pruning → new.branch ≡ chain.branch → new.found ≡ chain.found → StandsFor new b (m ∷ R) choice
      waiting_stands stays none found_stays trunk_stays stands whole pruning branch found = subst (StandsFor new b (m ∷ R)) (none_more choice)
          (stays_for b R m choice 0 chain new s d (λ p h t. waiting_same p h) found_stays trunk_stays whole (subst (IsChosenNext chain.whole b R m choice) (sym (none_more choice)) (waiting_next stays none)) (link_of m ∷ s.links) (links_more b R m s.links s.are_links) stands (λ i. (pruning i).root) (omega (arith, ap (λ p. p.overtaken) pruning)) (λ i. (branch i).branch) found (λ q held at k. put_keeps b R m choice chain s d fresh new put q held at) (λ w. (record { message = m; pathless = false }, put_itself b R m choice chain s d fresh new put, refl, refl)) put_only (put_marks b R m choice chain s d fresh new put) (knows_more waiting_same))
