-- A message that came and was linked through the root: what the chain stands for then.
use Rattle.std.proofs.Common.{◌≡◌, ◌≢◌, ℕ, ◌+◌, ◌-◌, List, [], ◌∷◌, ◌++◌, length, take, map, reverse, true, false, Option, Some, refl, sym, ap, ◌∙◌, subst, append_assoc, length-append}
use Rattle.std.specs.BTreeSet.{BTreeSet}
use Rattle.pad_text.specs.declared.name.Name.{Name}
use Rattle.pad_message.specs.declared.message.Message.{Message}
use Rattle.pad_message.specs.Message.{name_of}
use Rattle.pad_graph.specs.declared.linking.Linking.{Linking}
use Rattle.pad_graph.specs.Chain.{Link}
use Rattle.pad_graph.specs.State as graph
use Rattle.pad_list.specs.Number.{IsNumberOf}
use Rattle.pad_model.specs.declared.base.Base.{Base}
use Rattle.pad_model.specs.Path.{IsLinkedPath, EachSound}
use Rattle.pad_model.proofs.CallerLemmas.{linked_below, sound_below}
use Rattle.pad_model.specs.Choice.{Choice, IsBestThrough, Overtakes}
use Rattle.pad_model.specs.Count.{IsWaiting}
use Rattle.pad_model.specs.Laws.{BestThroughItsRoot, RepeatChangesNoChoice, OnlyNewPaths}
use Rattle.pad_checkpoint.specs.Links.{link_of}
use Rattle.pad_checkpoint.specs.Laws.{RootsRiseToCutsAbove}
use Rattle.pad_branch.specs.declared.held.Held.{Held}
use Rattle.pad_branch.specs.declared.undo.Undo.{Undo}
use Rattle.pad_branch.specs.Undo.{undone_name}
use Rattle.pad_branch.specs.Held.{messages_at, mark_of, marks}
use Rattle.pad_branch.specs.Move.{move_back, move_on}
use Rattle.pad_branch.specs.Pathless.{KnowsPathless, AreFound, pathless_in}
use Rattle.pad_branch.specs.Branch.{State, IsTrunk, IsWon, switched}
use Rattle.pad_branch.specs.Choice.{IsReady}
use Rattle.pad_branch.specs.Laws.{FoundStays, TrunkStays, StaysKnown, MarksPass, KnownAbove, FoundAbove}
use Rattle.pad_chain.specs.declared.moved.Moved.{Moved}
use Rattle.pad_chain.specs.Moved.{IsMoved}
use Rattle.pad_chain.specs.State.{View, held_of}
use Rattle.pad_chain.specs.Tie.{IsChosen, IsChosenNext, StandsFor}
use Rattle.pad_chain.specs.Receive.{IsReceived}
use Rattle.pad_chain.specs.Inside.Tables.{IsSame, AreLetGo, AreMarked, AreNoted}
use Rattle.pad_chain.specs.Inside.Receiving.{rising, IsJoining, IsRaised}
use Rattle.pad_chain.proofs.Stays.{stayed, chosen_after}
use Rattle.pad_chain.proofs.Put.{put_marks}
use Rattle.pad_chain.proofs.Joining.{none_overtakes}
use Rattle.pad_chain.proofs.Ready.{best_now, is_ready}
use Rattle.pad_chain.proofs.Keeping.{Keeps, stands_so, m_not_waiting, linked_keeps}
use Rattle.pad_chain.proofs.Marked.{marked_best, marked_keeps}
use Rattle.pad_chain.proofs.Chosen.{choice_next, choice_same, chosen_next}
use Rattle.pad_chain.proofs.Noting.{noted_keeps}
use Rattle.pad_chain.proofs.Risen.{risen_keeps, risen_sub, risen_same}
use Rattle.pad_chain.proofs.Moving.{is_moved}
use Rattle.pad_chain.proofs.Winning.{upper_of, won_next, won_stands}

module _ (before mid : View) (b : Base) (R : List Message) (m : Message) (choice : Choice) (linkings : List Linking) (j : IsJoining before mid b R m choice linkings) where
  abbrev s : StandsFor before b R choice
  s = j.adding.stood

  abbrev links : List Link
  links = link_of m ∷ s.links

  pub ready : BestThroughItsRoot → FoundStays → TrunkStays → StaysKnown → marks (held_of before) m.parent ≡ false → IsReady b R m choice.root s.above mid.branch.branch (held_of mid) (graph.state_of mid.graph) before.found linkings
  ready best found_stays trunk_stays stays_known free = is_ready b R m choice before mid s j.differ linkings j.adding.told j.put best found_stays trunk_stays stays_known j.adding.stands j.branch free

  none : IsNumberOf (Overtakes b R m choice) 0
  none = none_overtakes b R m choice before s j.differ linkings j.adding.told

  free_waits : (x : Message) → IsWaiting b (m ∷ R) x → marks (held_of mid) (name_of x) ≡ false
  free_waits x w = sym (put_marks b R m choice before s j.differ j.adding.told.0 mid j.put (name_of x)) ∙ free (s.waits x (m_not_waiting b R m choice before mid s j.differ linkings j.adding.told j.put x w).1)
    where
      free : (held : Held) × (held_of before (name_of x) ≡ Some held) × (held.message ≡ x) × (held.pathless ≡ false) → marks (held_of before) (name_of x) ≡ false
      free (held, at, is, unmarked) = ap mark_of at ∙ unmarked

  mid_keeps : IsReady b R m choice.root s.above mid.branch.branch (held_of mid) (graph.state_of mid.graph) before.found linkings → (branch : State) (above : List Message) → IsTrunk b (m ∷ R) choice.root above branch
      → Keeps (graph.state_of mid.graph) before.pruning.root branch (held_of mid) before.found b (m ∷ R) choice.root above links
  mid_keeps r branch above trunk =
      linked_keeps b R m choice before mid s j.differ linkings j.adding.told j.put (held_of mid) (λ q. refl) free_waits (graph.state_of mid.graph) branch above before.found j.adding.stands trunk r.knows r.are

  -- where the path stays
  same_received : RepeatChangesNoChoice → (new : View) (moved : Moved) → Keeps (graph.state_of new.graph) new.pruning.root new.branch.branch (held_of new) new.found b (m ∷ R) choice.root s.above links
      → IsBestThrough b (m ∷ R) choice.root choice.chosen → new.whole ≡ before.whole → new.pruning.overtaken ≡ before.pruning.overtaken → moved.reverted ≡ [] → moved.applied ≡ [] → IsReceived before new b R m choice moved
  same_received law new moved k best whole over left joined = record {
    next = choice;
    chosen = next;
    stands = stands_so new b (m ∷ R) choice s.above links k (subst (λ w. IsChosen w b (m ∷ R) choice) (sym whole) (chosen_after b R m choice before.whole choice s.chosen next)) (over ∙ s.overtook) s.through;
    path = stayed b choice.chosen moved left joined;
  }
    where
      next : IsChosenNext before.whole b R m choice choice
      next = subst (IsChosenNext before.whole b R m choice) (choice_same law b R choice before.whole s.chosen) (chosen_next b R m choice before.whole choice.chosen s.chosen best none)

  -- the parent is marked
  pub marked_received : RepeatChangesNoChoice → BestThroughItsRoot → OnlyNewPaths → FoundStays → TrunkStays → MarksPass → marks (held_of before) m.parent ≡ true → (new : View) (moved : Moved) → AreMarked (held_of mid) (held_of new) linkings
      → new.graph ≡ mid.graph → new.pruning ≡ mid.pruning → new.branch ≡ mid.branch → new.found ≡ mid.found → new.whole ≡ mid.whole → moved.reverted ≡ [] → moved.applied ≡ [] → IsReceived before new b R m choice moved
  marked_received repeat best only_new found_stays trunk_stays marks_pass parent new moved marked names pruning branch found whole left joined =
      same_received repeat new moved
      (subst (λ (n : View). Keeps (graph.state_of n.graph) n.pruning.root n.branch.branch (held_of new) n.found b (m ∷ R) choice.root s.above links) same
      (marked_keeps b R m choice before mid s j.differ linkings j.adding.told j.put (held_of new) marked found_stays trunk_stays marks_pass parent (graph.state_of mid.graph) j.adding.stands))
      (marked_best b R m choice before mid s j.differ linkings j.adding.told j.put (held_of new) marked only_new marks_pass parent (best_now best b R choice before.whole s.chosen))
      (whole ∙ j.whole) (ap (λ p. p.overtaken) (pruning ∙ j.pruning)) left joined
    where
      same : record new { graph = mid.graph; pruning = before.pruning; branch = before.branch; found = before.found } ≡ new
      same = let e1 = sym names in let e2 = sym (pruning ∙ j.pruning) in let e3 = sym (branch ∙ j.branch) in let e4 = sym (found ∙ j.found) in
          λ i. record new { graph = e1 i; pruning = e2 i; branch = e3 i; found = e4 i }

  module _ (r : IsReady b R m choice.root s.above mid.branch.branch (held_of mid) (graph.state_of mid.graph) before.found linkings) (names : BTreeSet Name) (more : List Name) (knows : KnowsPathless b (m ∷ R) choice.root (pathless_in (held_of mid) names)) (are : AreFound b (m ∷ R) choice.root (pathless_in (held_of mid) names) more) (new : View) (moved : Moved) (whole : new.whole ≡ mid.whole) (found : new.found ≡ more) where
    -- no path won
    pub none_received : RepeatChangesNoChoice → IsBestThrough b (m ∷ R) choice.root (s.above ++ choice.root) → AreNoted (held_of mid) (held_of new) names (graph.state_of mid.graph)
        → new.graph ≡ mid.graph → new.pruning ≡ mid.pruning → new.branch.branch ≡ mid.branch.branch → moved.reverted ≡ [] → moved.applied ≡ [] → IsReceived before new b R m choice moved
    none_received repeat best noted same_graph pruning branch left joined =
        same_received repeat new moved keeps (subst (IsBestThrough b (m ∷ R) choice.root) (sym s.through) best) (whole ∙ j.whole) (ap (λ p. p.overtaken) (pruning ∙ j.pruning)) left joined
      where
        at_mid : Keeps (graph.state_of mid.graph) before.pruning.root mid.branch.branch (held_of new) more b (m ∷ R) choice.root s.above links
        at_mid = noted_keeps (held_of mid) (held_of new) names (graph.state_of mid.graph) noted b (m ∷ R) choice.root s.above links before.pruning.root mid.branch.branch before.found more (mid_keeps r mid.branch.branch s.above r.trunk) (held_of mid) (λ q e. e) (λ x p h t e. e) knows are

        keeps : Keeps (graph.state_of new.graph) new.pruning.root new.branch.branch (held_of new) new.found b (m ∷ R) choice.root s.above links
        keeps = let e1 = sym same_graph in let e2 = sym (pruning ∙ j.pruning) in let e3 = sym branch in let e4 = sym found in
            subst (λ t. t) (λ i. Keeps (graph.state_of (e1 i)) (e2 i).root (e3 i) (held_of new) (e4 i) b (m ∷ R) choice.root s.above links) at_mid

    -- a path won
    module _ (path : List Message) (best : IsBestThrough b (m ∷ R) choice.root (path ++ choice.root)) (keep : ℕ) (come : List Undo) (units : List ℕ) (won : IsWon b (m ∷ R) choice.root s.above path mid.branch.branch (held_of mid) keep come units) (after : Name → Option Held)
        (raised : IsRaised b links choice.root (rising mid.whole path) new.pruning.root (graph.state_of new.graph)) (over : new.pruning.overtaken ≡ mid.pruning.overtaken)
        (rose : (upper joined : List Message) → IsTrunk b (m ∷ R) choice.root (upper ++ joined) (switched mid.branch.branch keep come units) → new.pruning.root.height ≡ length joined + length choice.root
        → IsTrunk b (m ∷ R) (joined ++ choice.root) upper new.branch.branch × ((joined ≡ []) → IsSame (held_of mid) after) × ((joined ≢ []) → AreLetGo (held_of mid) after (graph.state_of new.graph).dropped))
        (noted : AreNoted after (held_of new) names (graph.state_of new.graph)) where
      abbrev joins : List Message
      joins = rising mid.whole path

      abbrev upper : List Message
      upper = (upper_of mid.whole path).0

      split : path ≡ upper ++ joins
      split = (upper_of mid.whole path).1

      rises_so : IsTrunk b (m ∷ R) (joins ++ choice.root) upper new.branch.branch × ((joins ≡ []) → IsSame (held_of mid) after) × ((joins ≢ []) → AreLetGo (held_of mid) after (graph.state_of new.graph).dropped)
      rises_so = rose upper joins (subst (λ p. IsTrunk b (m ∷ R) choice.root p (switched mid.branch.branch keep come units)) split won.trunk) (ap (λ p. p.height) raised.at_root ∙ length-append joins choice.root)

      at_mid : Keeps (graph.state_of mid.graph) before.pruning.root (switched mid.branch.branch keep come units) (held_of mid) before.found b (m ∷ R) choice.root path links
      at_mid = mid_keeps r (switched mid.branch.branch keep come units) path won.trunk

      at_next : KnownAbove → FoundAbove → Keeps (graph.state_of new.graph) new.pruning.root new.branch.branch after before.found b (m ∷ R) (joins ++ choice.root) upper links
      at_next known_above found_above =
          risen_keeps b (m ∷ R) choice.root path upper links (graph.state_of mid.graph) before.pruning.root (switched mid.branch.branch keep come units) (held_of mid) before.found at_mid (graph.state_of new.graph) new.pruning.root new.branch.branch after
          known_above found_above joins split raised rises_so.0 rises_so.1 rises_so.2 won.sound

      at_end : KnownAbove → FoundAbove → Keeps (graph.state_of new.graph) new.pruning.root new.branch.branch (held_of new) more b (m ∷ R) (joins ++ choice.root) upper links
      at_end known_above found_above =
          noted_keeps after (held_of new) names (graph.state_of new.graph) noted b (m ∷ R) (joins ++ choice.root) upper links new.pruning.root new.branch.branch before.found more (at_next known_above found_above) (held_of mid)
          (risen_sub b (m ∷ R) choice.root path upper links (graph.state_of mid.graph) before.pruning.root (switched mid.branch.branch keep come units) (held_of mid) before.found at_mid (graph.state_of new.graph) new.pruning.root new.branch.branch after joins split raised rises_so.1 rises_so.2)
          (risen_same b (m ∷ R) choice.root path upper links (graph.state_of mid.graph) before.pruning.root (switched mid.branch.branch keep come units) (held_of mid) before.found at_mid (graph.state_of new.graph) new.pruning.root new.branch.branch after joins split raised rises_so.1 rises_so.2)
          (known_above b (m ∷ R) choice.root (joins ++ choice.root) (pathless_in (held_of mid) names) knows next_linked next_sound (joins, refl))
          (found_above b (m ∷ R) choice.root (joins ++ choice.root) (pathless_in (held_of mid) names) more are (joins, refl))
        where
          whole_path : path ++ choice.root ≡ upper ++ (joins ++ choice.root)
          whole_path = ap (λ q. q ++ choice.root) split ∙ append_assoc upper joins choice.root

          next_linked : IsLinkedPath b (m ∷ R) (joins ++ choice.root)
          next_linked = linked_below b (m ∷ R) upper (joins ++ choice.root) (subst (IsLinkedPath b (m ∷ R)) whole_path won.trunk.linked)

          next_sound : EachSound b (joins ++ choice.root)
          next_sound = sound_below b upper (joins ++ choice.root) (subst (EachSound b) whole_path won.sound)

      pub won_received : RootsRiseToCutsAbove → KnownAbove → FoundAbove → moved.reverted ≡ map move_back (take (length mid.branch.branch.undos - keep) (reverse mid.branch.branch.undos)) → moved.applied ≡ map move_on (messages_at (held_of mid) (map undone_name come)) → IsReceived before new b R m choice moved
      won_received roots known_above found_above back on = record {
        next = choice_next before.whole choice (path ++ choice.root);
        chosen = won_next b R m choice before new s path upper links best none;
        stands = won_stands b R m choice before new s path upper links best none roots (subst (λ w. path ≡ (upper_of mid.whole path).0 ++ rising w path) j.whole split) (whole ∙ j.whole) (over ∙ ap (λ p. p.overtaken) j.pruning)
            (subst (λ w. Keeps (graph.state_of new.graph) new.pruning.root new.branch.branch (held_of new) new.found b (m ∷ R) (rising w path ++ choice.root) upper links) j.whole
            (subst (λ f. Keeps (graph.state_of new.graph) new.pruning.root new.branch.branch (held_of new) f b (m ∷ R) (joins ++ choice.root) upper links) (sym found) (at_end known_above found_above)));
        path = subst (λ p. IsMoved b p (path ++ choice.root) moved) (sym s.through) (is_moved b (m ∷ R) choice.root s.above path mid.branch.branch (held_of mid) keep come units r.trunk won moved back on);
      }
