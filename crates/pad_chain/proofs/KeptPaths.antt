-- Paths through the root, by how their names stand in the graph, and what a test that fails says of them.
use Rattle.std.proofs.Common.{◌≡◌, ℕ, ◌≤◌, List, [], ◌∷◌, ◌++◌, length, true, sym, ap, ◌∙◌, subst, append_assoc, length-append, arith, true≢false}
use Rattle.std.proofs.lemmas.List.{length-map}
use Rattle.pad_text.specs.declared.name.Name.{Name}
use Rattle.pad_message.specs.declared.message.Message.{Message}
use Rattle.pad_message.specs.Message.{name_of}
use Rattle.pad_graph.specs.declared.standing.Standing.{Standing}
use Rattle.pad_graph.specs.declared.standing.Standing.TheVariants as stand
use Rattle.pad_graph.specs.Chain.{top, IsChain, GoesThrough}
use Rattle.pad_graph.specs.Graph.{IsStanding}
use Rattle.pad_model.specs.declared.base.Base.{Base}
use Rattle.pad_model.specs.Path.{last_name, IsLinkedPath, EachSound, NamesDiffer}
use Rattle.pad_model.specs.Choice.{RunsThrough, Choice}
use Rattle.pad_model.proofs.CallerLemmas.{linked_unique, linked_below, sound_below}
use Rattle.pad_checkpoint.specs.Links.{link_of, names_of}
use Rattle.pad_checkpoint.proofs.CallerLemmas.{top_names, chain_of, path_of, through_names, through_paths}
use Rattle.pad_branch.specs.Held.{marks}
use Rattle.pad_branch.specs.Pathless.{IsFirstUnsound}
use Rattle.pad_branch.specs.Branch.{IsStopped}
use Rattle.pad_chain.specs.State.{View, held_of}
use Rattle.pad_chain.specs.Tie.{StandsFor}
use Rattle.pad_chain.proofs.Short.{short_path}

module _ (b : Base) (R : List Message) (choice : Choice) (chain : View) (s : StandsFor chain b R choice) where
  d : NamesDiffer R
  d = s.trunk.differ

  root_linked : IsLinkedPath b R choice.root
  root_linked = linked_below b R s.above choice.root s.trunk.linked

  -- a name that is linked through the root has a path through the root
  pub path_of_kept : (n : Name) (height : ℕ) → IsStanding b.name s.links (names_of choice.root) n (stand.Linked height) → (upper : List Message) × IsLinkedPath b R (upper ++ choice.root) × (length (upper ++ choice.root) ≡ height) × (last_name b (upper ++ choice.root) ≡ n)
  path_of_kept n height (ns, line, is, size, through) = go (path_of b R s.links s.are_links ns line)
    where
      split : (p : List Message) → IsLinkedPath b R p → (names_of p ≡ ns) → RunsThrough choice.root p → (upper : List Message) × IsLinkedPath b R (upper ++ choice.root) × (length (upper ++ choice.root) ≡ height) × (last_name b (upper ++ choice.root) ≡ n)
      split p h e (upper, whole) = (upper, subst (IsLinkedPath b R) whole h, ap length (sym whole) ∙ (sym (length-map p name_of) ∙ ap length e ∙ sym size), ap (last_name b) (sym whole) ∙ sym (top_names b p) ∙ ap (top b.name) e ∙ is)

      go : (p : List Message) × IsLinkedPath b R p × (names_of p ≡ ns) → (upper : List Message) × IsLinkedPath b R (upper ++ choice.root) × (length (upper ++ choice.root) ≡ height) × (last_name b (upper ++ choice.root) ≡ n)
      go (p, h, e) = split p h e (through_paths b R choice.root p d root_linked h (subst (GoesThrough (names_of choice.root)) (sym e) through))

  -- and the name of such a path is linked through the root, at its height
  pub kept_of_path : (n : Name) (how : Standing) (p : List Message) → IsStanding b.name s.links (names_of choice.root) n how → IsLinkedPath b R p → RunsThrough choice.root p → last_name b p ≡ n → how ≡ stand.Linked (length p)
  kept_of_path n how p is h t last = go how is
    where
      line : IsChain b.name s.links (names_of p)
      line = chain_of b R s.links s.are_links p h

      at_top : top b.name (names_of p) ≡ n
      at_top = top_names b p ∙ last

      same : (ns : List Name) → IsChain b.name s.links ns → top b.name ns ≡ n → ns ≡ names_of p
      same ns c e = found (path_of b R s.links s.are_links ns c)
        where
          found : (q : List Message) × IsLinkedPath b R q × (names_of q ≡ ns) → ns ≡ names_of p
          found (q, g, k) = sym k ∙ ap names_of (linked_unique b R q p d g h (sym (top_names b q) ∙ ap (top b.name) k ∙ e ∙ sym last))

      unknown : (p : List Message) → IsLinkedPath b R p → last_name b p ≡ n → IsStanding b.name s.links (names_of choice.root) n stand.Unknown → ⊥
      unknown [] h e fresh = fresh.0 (sym e)
      unknown (x ∷ p) h e fresh = fresh.1 (link_of x, s.are_links.every x h.0.member h.0.not_base, e)

      go : (how : Standing) → IsStanding b.name s.links (names_of choice.root) n how → how ≡ stand.Linked (length p)
      go stand.Unknown fresh = absurd (unknown p h last fresh)
      go stand.Waiting w = absurd (w.1 (length p) (names_of p, line, at_top, sym (length-map p name_of)))
      go (stand.Linked height) (ns, c, e, size, through) = ap stand.Linked (size ∙ ap length (same ns c e) ∙ length-map p name_of)
      go (stand.Gone height) (ns, c, e, size, out) = absurd (out (subst (GoesThrough (names_of choice.root)) (sym (same ns c e)) (through_names choice.root p t)))

  -- its height is at least that of the root, and no more than the number of known names
  pub height_between : (p : List Message) → IsLinkedPath b R p → RunsThrough choice.root p → (chain.branch.branch.low ≤ length p) × (length p ≤ chain.graph.known)
  height_between p h (upper, e) = (omega (arith, s.trunk.height, ap length e, length-append upper choice.root), omega (arith, s.stands.known, short_path b R d s.links s.are_links p h))

  -- a path that was stopped is not sound
  pub stopped : (upper : List Message) (first : Name) → IsLinkedPath b R (upper ++ choice.root) → IsStopped b R choice.root upper first → ¬ (EachSound b (upper ++ choice.root))
  stopped upper first h stop sound = apart
    where
      line : upper ++ choice.root ≡ stop.over ++ (stop.message ∷ (stop.under ++ choice.root))
      line = ap (λ p. p ++ choice.root) stop.whole ∙ append_assoc stop.over (stop.message ∷ stop.under) choice.root

      unsound : IsFirstUnsound b R first
      unsound = stop.first

      same : unsound.message ∷ unsound.below ≡ stop.message ∷ (stop.under ++ choice.root)
      same = linked_unique b R (unsound.message ∷ unsound.below) (stop.message ∷ (stop.under ++ choice.root)) d unsound.linked (linked_below b R stop.over (stop.message ∷ (stop.under ++ choice.root)) (subst (IsLinkedPath b R) line h)) (unsound.named ∙ sym stop.named)

      apart : ⊥
      apart = unsound.unsound (subst (EachSound b) (sym same) (sound_below b stop.over (stop.message ∷ (stop.under ++ choice.root)) (subst (EachSound b) line sound))).0

  -- nor is one that ends in a marked message
  pub marked_out : (n : Name) (p : List Message) → IsLinkedPath b R p → RunsThrough choice.root p → last_name b p ≡ n → marks (held_of chain) n ≡ true → ¬ (EachSound b p)
  marked_out n [] h t e mark sound = absurd (true≢false (sym mark ∙ sym (ap (marks (held_of chain)) (root_name t ∙ e)) ∙ s.knows.at_root))
    where
      root_name : RunsThrough choice.root [] → last_name b choice.root ≡ last_name b []
      root_name ([], k) = ap (last_name b) (sym k)
      root_name (x ∷ u, k) = absurd (no k)
        where
          no : [] ≡ x ∷ (u ++ choice.root) → ⊥
          no k = cc
  marked_out n (x ∷ p) h t e mark sound = s.knows.really x p h (ap (marks (held_of chain)) e ∙ mark) sound
