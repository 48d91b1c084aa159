-- A message that links nothing through the root leaves what the chain chose, but for the count of those that overtook.
use Rattle.std.proofs.Common.{◌≡◌, ℕ, ◌+◌, ◌⊎◌, inl, inr, List, [], ◌∷◌, ◌++◌, Contains, Bool, true, false, Some, refl, sym, ap, ◌∙◌, subst, arith}
use Rattle.pad_text.specs.declared.name.Name.{Name}
use Rattle.pad_message.specs.declared.message.Message.{Message}
use Rattle.pad_message.specs.Message.{name_of}
use Rattle.pad_graph.specs.Chain.{Link}
use Rattle.pad_graph.specs.State as graph
use Rattle.pad_graph.specs.Graph.{Stands}
use Rattle.pad_model.specs.declared.base.Base.{Base}
use Rattle.pad_model.specs.Path.{IsLinkedPath, NamesDiffer}
use Rattle.pad_model.specs.Choice.{RunsThrough, Choice, IsNextChoice, IsChoice}
use Rattle.pad_model.specs.Count.{IsWaiting}
use Rattle.pad_model.specs.Laws.{StaysChosen, NothingLinks}
use Rattle.pad_list.proofs.CallerLemmas.{contains_more, contains_cases, contains_none}
use Rattle.pad_model.proofs.CallerLemmas.{path_more}
use Rattle.pad_checkpoint.specs.Links.{names_of, AreLinks}
use Rattle.pad_branch.specs.declared.held.Held.{Held}
use Rattle.pad_branch.specs.Held.{marks}
use Rattle.pad_branch.specs.Pathless.{KnowsPathless, AreFound}
use Rattle.pad_branch.specs.Branch.{IsTrunk}
use Rattle.pad_branch.specs.Laws.{FoundStays, TrunkStays}
use Rattle.pad_chain.specs.declared.moved.Moved.{Moved}
use Rattle.pad_chain.specs.Moved.{IsMoved}
use Rattle.pad_chain.specs.State.{View, held_of}
use Rattle.pad_chain.specs.Tie.{IsWholeChoice, IsChosen, IsChosenNext, IsKeptMessage, StandsFor}
use Rattle.pad_chain.proofs.Coming.{more_path}

-- the path stayed
pub stayed : (b : Base) (p : List Message) (moved : Moved) → moved.reverted ≡ [] → moved.applied ≡ [] → IsMoved b p p moved
stayed b p moved none_left none_joined = record { common = p; left = []; joined = []; was = refl; is = refl; apart = λ m c. absurd (contains_none m c); back = none_left; on = none_joined }

-- as many more overtook
abbrev pub with_more : Choice → ℕ → Choice
with_more choice more = record choice { overtaken = choice.overtaken + more }

module _ (b : Base) (R : List Message) (m : Message) (choice : Choice) where
  abbrev pub NoneThrough : Type 0
  NoneThrough = (p : List Message) → IsLinkedPath b (m ∷ R) p → RunsThrough choice.root p → IsLinkedPath b R p

  -- a chain that drops nothing
  pub whole_stays : NoneThrough → IsWholeChoice b R choice → IsWholeChoice b (m ∷ R) choice
  whole_stays none w = record {
    root = w.root;
    best = record {
      path = path_more b R (m ∷ R) choice.chosen (contains_more m R) w.best.path;
      none_better = λ q path. w.best.none_better q (none q path.0 (subst (λ r. RunsThrough r q) (sym w.root) (q, sym (append_none q))), path.1);
    };
    none = w.none;
  }
    where
      append_none : (q : List Message) → q ++ [] ≡ q
      append_none [] = refl
      append_none (x ∷ q) = ap (λ r. x ∷ r) (append_none q)

  -- nothing overtakes where nothing becomes linked
  pub quiet_next : StaysChosen → NothingLinks → ((p : List Message) → IsLinkedPath b (m ∷ R) p → IsLinkedPath b R p) → IsChoice b R choice → IsNextChoice b R m choice choice
  quiet_next stays none same h =
      let number = none b R m choice same in
      let n = stays b R m choice 0 h (λ p l t. same p l) number in
      record { chosen = n.chosen; root = n.root; more = 0; overtook = number; overtaken = omega arith }

  pub quiet_chosen_next : StaysChosen → NothingLinks → ((p : List Message) → IsLinkedPath b (m ∷ R) p → IsLinkedPath b R p) → (w : Bool) → IsChosen w b R choice → IsChosenNext w b R m choice choice
  quiet_chosen_next stays none same true h = whole_stays (λ p l t. same p l) h
  quiet_chosen_next stays none same false h = quiet_next stays none same h

  -- what is chosen after the message is what is chosen next
  pub chosen_after : (w : Bool) (next : Choice) → IsChosen w b R choice → IsChosenNext w b R m choice next → IsChosen w b (m ∷ R) next
  chosen_after true next h n = n
  chosen_after false next h n = (choice, h, n)

-- the chain after the message: what it must hold
module _ (b : Base) (R : List Message) (m : Message) (choice : Choice) (more : ℕ) (chain new : View) (s : StandsFor chain b R choice) (d : NamesDiffer (m ∷ R)) (through : NoneThrough b R m choice) where
  waited : (x : Message) → IsWaiting b (m ∷ R) x → Contains R x → IsWaiting b R x
  waited x (c, apart, waits) k = (k, apart, λ l. waits (l.0, more_path b R m (x ∷ l.0) l.1))

  pub stays_for : FoundStays → TrunkStays → new.whole ≡ chain.whole → IsChosenNext chain.whole b R m choice (with_more choice more)
      → (links : List Link) → AreLinks b (m ∷ R) links → Stands (graph.state_of new.graph) b.name links (names_of choice.root)
      → new.pruning.root ≡ chain.pruning.root → new.pruning.overtaken ≡ chain.pruning.overtaken + more → new.branch.branch ≡ chain.branch.branch → new.found ≡ chain.found
      → ((q : Name) (held : Held) → held_of chain q ≡ Some held → (IsKeptMessage b (m ∷ R) choice.root held.message ⊎ IsWaiting b (m ∷ R) held.message) → held_of new q ≡ Some held)
      → (IsWaiting b (m ∷ R) m → (held : Held) × (held_of new (name_of m) ≡ Some held) × (held.message ≡ m) × (held.pathless ≡ false))
      → ((q : Name) (held : Held) → held_of new q ≡ Some held → (name_of held.message ≡ q) × (IsKeptMessage b (m ∷ R) choice.root held.message ⊎ IsWaiting b (m ∷ R) held.message))
      → ((q : Name) → marks (held_of chain) q ≡ marks (held_of new) q)
      → KnowsPathless b (m ∷ R) choice.root (marks (held_of chain))
      → StandsFor new b (m ∷ R) (with_more choice more)
  stays_for found_stays trunk_stays whole chosen links are_links stands root over branch found keeps itself only same knows = record {
    chosen = subst (λ w. IsChosen w b (m ∷ R) (with_more choice more)) (sym whole) (chosen_after b R m choice chain.whole (with_more choice more) s.chosen chosen);
    links = links;
    are_links = are_links;
    stands = stands;
    at_root = root ∙ s.at_root;
    overtook = over ∙ ap (λ n. n + more) s.overtook;
    above = s.above;
    through = s.through;
    trunk = subst (IsTrunk b (m ∷ R) choice.root s.above) (sym branch) (trunk_stays b R choice.root s.above m chain.branch.branch d s.trunk);
    holds = λ x p h t. holds x p h t (s.holds x p (through (x ∷ p) h (x ∷ t.0, ap (λ q. x ∷ q) t.1)) t);
    waits = λ x w. waits x w (contains_cases m R x w.0);
    only = only;
    knows = subst (KnowsPathless b (m ∷ R) choice.root) (λ i q. same q i) knows;
    are_found = subst (λ f. AreFound b (m ∷ R) choice.root f new.found) (λ i q. same q i) (subst (AreFound b (m ∷ R) choice.root (marks (held_of chain))) (sym found) (found_stays b R choice.root m (marks (held_of chain)) chain.found d s.are_found));
  }
    where
      holds : (x : Message) (p : List Message) → IsLinkedPath b (m ∷ R) (x ∷ p) → RunsThrough choice.root p → (held : Held) × (held_of chain (name_of x) ≡ Some held) × (held.message ≡ x) → (held : Held) × (held_of new (name_of x) ≡ Some held) × (held.message ≡ x)
      holds x p h t (held, at, is) = (held, keeps (name_of x) held at (inl (p, subst (λ y. IsLinkedPath b (m ∷ R) (y ∷ p)) (sym is) h, (held.message ∷ t.0, ap (λ q. held.message ∷ q) t.1))), is)

      old : (x : Message) → IsWaiting b (m ∷ R) x → (held : Held) × (held_of chain (name_of x) ≡ Some held) × (held.message ≡ x) × (held.pathless ≡ false) → (held : Held) × (held_of new (name_of x) ≡ Some held) × (held.message ≡ x) × (held.pathless ≡ false)
      old x w (held, at, is, free) = (held, keeps (name_of x) held at (inr (subst (IsWaiting b (m ∷ R)) (sym is) w)), is, free)

      waits : (x : Message) → IsWaiting b (m ∷ R) x → (m ≡ x) ⊎ Contains R x → (held : Held) × (held_of new (name_of x) ≡ Some held) × (held.message ≡ x) × (held.pathless ≡ false)
      waits x w (inl e) = subst (λ y. (held : Held) × (held_of new (name_of y) ≡ Some held) × (held.message ≡ y) × (held.pathless ≡ false)) e (itself (subst (IsWaiting b (m ∷ R)) (sym e) w))
      waits x w (inr c) = old x w (s.waits x (waited x w c))
