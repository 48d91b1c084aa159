-- A message whose name is known, one that waits, one that becomes linked below the root, and one that is refused.
use Rattle.std.proofs.Common.{◌≡◌, ℕ, ◌+◌, ◌-◌, ◌≤◌, ◌^◌, ◌⊎◌, inl, inr, min, List, [], ◌∷◌, Contains, Bool, true, false, cond, Option, Some, None, option_map, IfSome, is_eq, refl, sym, ◌∙◌, subst, arith}
use Rattle.pad_text.specs.declared.name.Name.{Name}
use Rattle.pad_message.specs.declared.message.Message.{Message}
use Rattle.pad_message.specs.Message.{name_of}
use Rattle.pad_message.specs.Kind.{HasInterval}
use Rattle.pad_graph.specs.declared.graph.TheConstants.{MOST_NAMES}
use Rattle.pad_graph.specs.declared.linking.Linking.{Linking}
use Rattle.pad_graph.specs.declared.added.Added.TheVariants.{Known, Waiting, Below}
use Rattle.pad_graph.specs.State as graph
use Rattle.pad_graph.specs.Graph.{Stands, IsNewName}
use Rattle.pad_list.specs.Number.{IsNumberOf}
use Rattle.pad_model.specs.declared.base.Base.{Base}
use Rattle.pad_model.specs.Path.{NamesDiffer}
use Rattle.pad_model.specs.Choice.{Choice, Overtakes}
use Rattle.pad_model.specs.Count.{IsWaiting}
use Rattle.pad_model.specs.Laws.{StaysChosen, NothingLinks}
use Rattle.pad_checkpoint.specs.Links.{link_of, names_of}
use Rattle.pad_checkpoint.proofs.CallerLemmas.{links_more}
use Rattle.pad_branch.specs.declared.held.Held.{Held}
use Rattle.pad_branch.specs.Held.{IsHeldAs}
use Rattle.pad_branch.specs.Laws.{FoundStays, TrunkStays, StaysKnown}
use Rattle.pad_chain.specs.declared.moved.Moved.{Moved}
use Rattle.pad_chain.specs.State.{View, held_of}
use Rattle.pad_chain.specs.Tie.{IsChosen, IsKeptMessage, StandsFor}
use Rattle.pad_chain.specs.Receive.{IsReceived}
use Rattle.pad_chain.specs.Inside.Tables.{is_among, with_mark, IsPut, IsSame, AreLetGo, AreMarked}
use Rattle.pad_chain.specs.Inside.Receiving.{IsAdding}
use Rattle.pad_chain.proofs.Names.{name_same}
use Rattle.pad_chain.proofs.Stays.{stayed, with_more, chosen_after}
use Rattle.pad_chain.proofs.Quiet.{known_next, known_stands, waiting_next, waiting_stands}
use Rattle.pad_chain.proofs.Below.{not_whole, below_next, below_stands}
use Rattle.pad_chain.proofs.Few.{few_overtook}

module _ (before mid : View) (b : Base) (R : List Message) (m : Message) (choice : Choice) (new : View) (moved : Moved) (left : moved.reverted ≡ []) (joined : moved.applied ≡ []) where
  pub known_received : StaysChosen → NothingLinks → FoundStays → TrunkStays → IsAdding before new b R m choice Known → NamesDiffer (m ∷ R) → IsSame (held_of before) (held_of new) → new.whole ≡ before.whole → new.pruning ≡ before.pruning → new.branch ≡ before.branch → new.found ≡ before.found → IsReceived before new b R m choice moved
  known_received stays nothing found_stays trunk_stays a d same whole pruning branch found = record {
    next = choice;
    chosen = known_next b R m choice before a.stood d a.told stays nothing;
    stands = known_stands b R m choice before a.stood d a.told new same stays nothing found_stays trunk_stays a.stands whole pruning branch found;
    path = stayed b choice.chosen moved left joined;
  }

  pub waiting_received : StaysChosen → NothingLinks → FoundStays → TrunkStays → IsAdding before mid b R m choice Waiting → NamesDiffer (m ∷ R) → IsPut (held_of before) (held_of new) (name_of m) (Some (record { message = m; pathless = false })) → new.graph ≡ mid.graph → new.whole ≡ before.whole → new.pruning ≡ before.pruning → new.branch ≡ before.branch → new.found ≡ before.found → IsReceived before new b R m choice moved
  waiting_received stays nothing found_stays trunk_stays a d put same whole pruning branch found = record {
    next = choice;
    chosen = waiting_next b R m choice before a.stood d a.told.0 a.told.1 new put stays nothing;
    stands = waiting_stands b R m choice before a.stood d a.told.0 a.told.1 new put stays nothing found_stays trunk_stays (subst (λ (g : graph.Tables). Stands (graph.state_of g) b.name (link_of m ∷ a.stood.links) (names_of choice.root)) (sym same) a.stands) whole pruning branch found;
    path = stayed b choice.chosen moved left joined;
  }

  -- the count does not stop
  fits : (n : ℕ) (below : List Linking) → (a : IsAdding before mid b R m choice (Below below)) → NamesDiffer (m ∷ R) → StaysChosen → IsNumberOf (Overtakes b R m choice) n → (graph.state_of mid.graph).known ≤ MOST_NAMES → choice.overtaken + n ≤ MOST_NAMES
  fits n below a d stays number most = go before.whole a.stood.chosen
    where
      go : (w : Bool) → IsChosen w b R choice → choice.overtaken + n ≤ MOST_NAMES
      go true h = absurd (not_whole b R m choice before a.stood d below a.told h.root)
      go false h =
          let few = few_overtook b (m ∷ R) (with_more choice n) (link_of m ∷ a.stood.links) d (links_more b R m a.stood.links a.stood.are_links) (chosen_after b R m choice false (with_more choice n) h (below_next b R m choice before a.stood d below a.told stays n number false h)) in
          omega (arith, few, a.stands.known, most)

  pub below_received : StaysChosen → FoundStays → TrunkStays → StaysKnown → (below : List Linking) (a : IsAdding before mid b R m choice (Below below)) → NamesDiffer (m ∷ R) → (graph.state_of mid.graph).known ≤ MOST_NAMES → (n : ℕ) → IsNumberOf (Overtakes b R m choice) n → new.pruning.overtaken ≡ min (before.pruning.overtaken + n) (2 ^ 64 - 1)
      → AreLetGo (held_of before) (held_of new) below → new.graph ≡ mid.graph → new.whole ≡ before.whole → new.pruning.root ≡ before.pruning.root → new.branch ≡ before.branch → new.found ≡ before.found → IsReceived before new b R m choice moved
  below_received stays found_stays trunk_stays stays_known below a d most n number over gone same whole root branch found = record {
    next = with_more choice n;
    chosen = below_next b R m choice before a.stood d below a.told stays n number before.whole a.stood.chosen;
    stands = below_stands b R m choice before a.stood d below a.told new gone stays found_stays trunk_stays stays_known n number (subst (λ (g : graph.Tables). Stands (graph.state_of g) b.name (link_of m ∷ a.stood.links) (names_of choice.root)) (sym same) a.stands) whole root counted branch found;
    path = stayed b choice.chosen moved left joined;
  }
    where
      counted : new.pruning.overtaken ≡ before.pruning.overtaken + n
      counted = omega (arith, over, a.stood.overtook, fits n below a d stays number most)

-- ---- a message that is refused

module _ (chain : View) (b : Base) (R : List Message) (choice : Choice) (s : StandsFor chain b R choice) where
  -- nothing is held at a new name
  pub fresh_none : (n : Name) → IsNewName b.name s.links n → held_of chain n ≡ None
  fresh_none n fresh = go (held_of chain n) refl
    where
      received : (x : Message) → Contains R x → name_of x ≡ n → ⊥
      received x c e = fresh.1 (link_of x, s.are_links.every x c (λ k. fresh.0 (sym e ∙ k)), e)

      not_held : (held : Held) → (name_of held.message ≡ n) × (IsKeptMessage b R choice.root held.message ⊎ IsWaiting b R held.message) → ⊥
      not_held held (e, inl k) = received held.message k.1.0.member e
      not_held held (e, inr w) = received held.message w.0 e

      go : (o : Option Held) → held_of chain n ≡ o → held_of chain n ≡ None
      go None e = e
      go (Some held) e = absurd (not_held held (s.only n held e))

  -- what was put at a new name and removed again was not there
  pub taken_back : (n : Name) → IsNewName b.name s.links n → (mid after : Name → Option Held) (held : Held) → IsPut (held_of chain) mid n (Some held) → IsPut mid after n None → IsSame (held_of chain) after
  taken_back n fresh mid after held put removed q = removed q ∙ go (is_eq (graph.name_cmp n q)) refl (put q)
    where
      go : (t : Bool) → is_eq (graph.name_cmp n q) ≡ t → mid q ≡ cond t (Some held) (held_of chain q) → cond t None (mid q) ≡ held_of chain q
      go true e at = sym (subst (λ k. held_of chain k ≡ None) (name_same n q e) (fresh_none n fresh))
      go false e at = at

-- ---- what is held has its name

pub put_held : (old new : Name → Option Held) (n : Name) (m : Message) → IsPut old new n (Some (record { message = m; pathless = false })) → HasInterval m.kind → n ≡ name_of m → ((q : Name) → IfSome (old q) (IsHeldAs q)) → (q : Name) → IfSome (new q) (IsHeldAs q)
put_held old new n m put interval named h q = subst (λ o. IfSome o (IsHeldAs q)) (sym (put q)) (go (is_eq (graph.name_cmp n q)) refl)
  where
    go : (t : Bool) → is_eq (graph.name_cmp n q) ≡ t → IfSome (cond t (Some (record { message = m; pathless = false })) (old q)) (IsHeldAs q)
    go true e = record { interval = interval; named = sym named ∙ name_same n q e }
    go false e = h q

pub same_held : (old new : Name → Option Held) → IsSame old new → ((q : Name) → IfSome (old q) (IsHeldAs q)) → (q : Name) → IfSome (new q) (IsHeldAs q)
same_held old new same h q = subst (λ o. IfSome o (IsHeldAs q)) (sym (same q)) (h q)

some_or_none : (t : Bool) (o : Option Held) (q : Name) → IfSome o (IsHeldAs q) → IfSome (cond t None o) (IsHeldAs q)
some_or_none true o q h = tt
some_or_none false o q h = h

pub removed_held : (old new : Name → Option Held) (n : Name) → IsPut old new n None → ((q : Name) → IfSome (old q) (IsHeldAs q)) → (q : Name) → IfSome (new q) (IsHeldAs q)
removed_held old new n put h q = subst (λ o. IfSome o (IsHeldAs q)) (sym (put q)) (some_or_none (is_eq (graph.name_cmp n q)) (old q) q (h q))

pub let_go_held : (old new : Name → Option Held) (linkings : List Linking) → AreLetGo old new linkings → ((q : Name) → IfSome (old q) (IsHeldAs q)) → (q : Name) → IfSome (new q) (IsHeldAs q)
let_go_held old new linkings gone h q = subst (λ o. IfSome o (IsHeldAs q)) (sym (gone q)) (some_or_none (is_among linkings q) (old q) q (h q))

pub marked_held : (old new : Name → Option Held) (linkings : List Linking) → AreMarked old new linkings → ((q : Name) → IfSome (old q) (IsHeldAs q)) → (q : Name) → IfSome (new q) (IsHeldAs q)
marked_held old new linkings marked h q = subst (λ o. IfSome o (IsHeldAs q)) (sym (marked q)) (go (is_among linkings q) (old q) (h q))
  where
    go : (t : Bool) (o : Option Held) → IfSome o (IsHeldAs q) → IfSome (cond t (option_map with_mark o) o) (IsHeldAs q)
    go true None i = i
    go true (Some held) i = record { interval = i.interval; named = i.named }
    go false o i = i

pub fewer_held : (old new : Name → Option Held) → ((q : Name) (held : Held) → new q ≡ Some held → old q ≡ Some held) → ((q : Name) → IfSome (old q) (IsHeldAs q)) → (q : Name) → IfSome (new q) (IsHeldAs q)
fewer_held old new fewer h q = go (new q) refl
  where
    go : (o : Option Held) → new q ≡ o → IfSome o (IsHeldAs q)
    go None e = tt
    go (Some held) e = subst (λ o. IfSome o (IsHeldAs q)) (fewer q held e) (h q)
