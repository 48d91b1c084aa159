-- What the choice stands on, once the message was added to the graph and is held.
use Rattle.std.proofs.Common.{◌≡◌, ◌≤◌, ◌⊎◌, inl, inr, List, [], ◌∷◌, ◌++◌, length, Contains, Bool, true, false, Some, refl, sym, ap, ◌∙◌, subst}
use Rattle.pad_text.specs.declared.name.Name.{Name}
use Rattle.pad_message.specs.declared.message.Message.{Message}
use Rattle.pad_message.specs.Message.{name_of}
use Rattle.pad_graph.specs.declared.linking.Linking.{Linking}
use Rattle.pad_graph.specs.declared.added.Added.TheVariants.{Linked}
use Rattle.pad_graph.specs.Added.{IsAdded}
use Rattle.pad_graph.specs.State as graph
use Rattle.pad_graph.specs.Graph.{Stands}
use Rattle.pad_model.specs.declared.base.Base.{Base}
use Rattle.pad_model.specs.Path.{last_name, IsLinkedPath, IsLinked, NamesDiffer}
use Rattle.pad_model.specs.Choice.{IsBestThrough, Choice}
use Rattle.pad_model.specs.Count.{IsWaiting}
use Rattle.pad_model.specs.Laws.{BestThroughItsRoot}
use Rattle.pad_list.proofs.CallerLemmas.{contains_cases}
use Rattle.pad_model.proofs.CallerLemmas.{linked_unique, linked_below}
use Rattle.pad_checkpoint.specs.Links.{link_of, names_of}
use Rattle.pad_branch.specs.declared.held.Held.{Held}
use Rattle.pad_branch.specs.Held.{HoldsKept, mark_of, marks}
use Rattle.pad_branch.specs.Pathless.{KnowsPathless, AreFound}
use Rattle.pad_branch.specs.Branch.{IsTrunk}
use Rattle.pad_branch.specs.Choice.{IsReady}
use Rattle.pad_branch.specs.Laws.{FoundStays, TrunkStays, StaysKnown}
use Rattle.pad_chain.specs.State.{View, held_of}
use Rattle.pad_chain.specs.Tie.{IsChosen, StandsFor}
use Rattle.pad_chain.specs.Inside.Tables.{IsPut}
use Rattle.pad_chain.proofs.Coming.{Passes, linked_new, more_path, after, not_on}
use Rattle.pad_chain.proofs.Put.{held_none, put_keeps, put_itself, put_marks}
use Rattle.pad_chain.proofs.Joining.{linked_on, join_every, join_each}
use Rattle.pad_chain.proofs.Short.{short_path}

append_none : (q : List Message) → q ++ [] ≡ q
append_none [] = refl
append_none (x ∷ q) = ap (λ r. x ∷ r) (append_none q)

pub best_now : BestThroughItsRoot → (b : Base) (R : List Message) (choice : Choice) (w : Bool) → IsChosen w b R choice → IsBestThrough b R choice.root choice.chosen
best_now law b R choice false h = law b R choice h
best_now law b R choice true h = record {
  path = h.best.path;
  through = (choice.chosen, sym (ap (λ r. choice.chosen ++ r) h.root ∙ append_none choice.chosen));
  none_better = λ q path through. h.best.none_better q path;
}

module _ (b : Base) (R : List Message) (m : Message) (choice : Choice) (chain mid : View) (s : StandsFor chain b R choice) (d : NamesDiffer (m ∷ R)) (linkings : List Linking) (told : IsAdded b.name s.links (names_of choice.root) (link_of m) (Linked linkings)) (put : IsPut (held_of chain) (held_of mid) (name_of m) (Some (record { message = m; pathless = false }))) where
  waited : (x : Message) (p : List Message) → IsLinkedPath b (m ∷ R) (x ∷ p) → Passes m (x ∷ p) → Contains R x → IsWaiting b R x
  waited x p h k c = (c, h.0.not_base, λ l. not_on b R m s.links s.are_links d told.0 (x ∷ p) (subst (IsLinkedPath b R) (same l) l.1) k)
    where
      same : (l : IsLinked b R x) → x ∷ l.0 ≡ x ∷ p
      same l = linked_unique b (m ∷ R) (x ∷ l.0) (x ∷ p) d (more_path b R m (x ∷ l.0) l.1) h refl

  pub now_holds : HoldsKept b (m ∷ R) choice.root (held_of mid)
  now_holds x p h t = go (contains_cases m R x h.0.member) (linked_new b R m (x ∷ p) h)
    where
      keep : (held : Held) × (held_of chain (name_of x) ≡ Some held) × (held.message ≡ x) → (held : Held) × (held_of mid (name_of x) ≡ Some held) × (held.message ≡ x)
      keep (held, at, is) = (held, put_keeps b R m choice chain s d told.0 mid put (name_of x) held at, is)

      first : (held : Held) × (held_of chain (name_of x) ≡ Some held) × (held.message ≡ x) × (held.pathless ≡ false) → (held : Held) × (held_of chain (name_of x) ≡ Some held) × (held.message ≡ x)
      first (held, at, is, free) = (held, at, is)

      go : (m ≡ x) ⊎ Contains R x → IsLinkedPath b R (x ∷ p) ⊎ Passes m (x ∷ p) → (held : Held) × (held_of mid (name_of x) ≡ Some held) × (held.message ≡ x)
      go (inl e) c = subst (λ y. (held : Held) × (held_of mid (name_of y) ≡ Some held) × (held.message ≡ y)) e (record { message = m; pathless = false }, put_itself b R m choice chain s d told.0 mid put, refl)
      go (inr c) (inl old) = keep (s.holds x p old t)
      go (inr c) (inr k) = keep (first (s.waits x (waited x p h k c)))

  same_marks : (q : Name) → marks (held_of chain) q ≡ marks (held_of mid) q
  same_marks = put_marks b R m choice chain s d told.0 mid put

  -- a new path ends in a message without a mark
  new_free : (above under : List Message) → IsLinkedPath b (m ∷ R) (above ++ m ∷ under) → marks (held_of chain) (last_name b (above ++ m ∷ under)) ≡ false
  new_free [] under h = ap mark_of (held_none b R m choice chain s d told.0)
  new_free (x ∷ above) under h = go (contains_cases m R x h.0.member)
    where
      go : (m ≡ x) ⊎ Contains R x → marks (held_of chain) (name_of x) ≡ false
      go (inl e) = subst (λ y. marks (held_of chain) (name_of y) ≡ false) e (ap mark_of (held_none b R m choice chain s d told.0))
      go (inr c) =
          let (held, at, is, free) = s.waits x (waited x (above ++ m ∷ under) h (record { above = x ∷ above; under = under; whole = refl }) c) in
          ap mark_of at ∙ free

  pub is_ready : BestThroughItsRoot → FoundStays → TrunkStays → StaysKnown → Stands (graph.state_of mid.graph) b.name (link_of m ∷ s.links) (names_of choice.root) → mid.branch ≡ chain.branch → marks (held_of chain) m.parent ≡ false
      → IsReady b R m choice.root s.above mid.branch.branch (held_of mid) (graph.state_of mid.graph) chain.found linkings
  is_ready best found_stays trunk_stays stays_known stands branch free = record {
    best = subst (IsBestThrough b R choice.root) s.through (best_now best b R choice chain.whole s.chosen);
    trunk = subst (IsTrunk b (m ∷ R) choice.root s.above) (ap (λ v. v.branch) (sym branch)) (trunk_stays b R choice.root s.above m chain.branch.branch d s.trunk);
    holds = now_holds;
    children = linked_on b (m ∷ R) d (link_of m ∷ s.links) (after b R m s.links s.are_links d told.0) choice.root (more_path b R m choice.root (linked_below b R s.above choice.root s.trunk.linked)) (graph.state_of mid.graph) stands;
    short = λ p h. subst (λ n. length p ≤ n) (sym stands.known) (short_path b (m ∷ R) d (link_of m ∷ s.links) (after b R m s.links s.are_links d told.0) p h);
    knows = subst (KnowsPathless b (m ∷ R) choice.root) (λ i q. same_marks q i) (stays_known b R choice.root m (marks (held_of chain)) s.knows free new_free);
    are = subst (λ f. AreFound b (m ∷ R) choice.root f chain.found) (λ i q. same_marks q i) (found_stays b R choice.root m (marks (held_of chain)) chain.found d s.are_found);
    each = join_each b R m choice chain s d linkings told;
    every = join_every b R m choice chain s d linkings told;
  }
