-- The root rises, and what is not linked through it is let go.
use Rattle.std.proofs.Common.{◌≡◌, ◌⊎◌, inl, inr, List, [], ◌∷◌, ◌++◌, length, Contains, Bool, true, false, cond, Option, Some, None, refl, sym, ap, ◌∙◌, subst, true≢false, append_assoc}
use Rattle.pad_text.specs.declared.name.Name.{Name}
use Rattle.pad_message.specs.declared.message.Message.{Message}
use Rattle.pad_message.specs.Message.{name_of}
use Rattle.pad_graph.specs.declared.linking.Linking.{Linking}
use Rattle.pad_graph.specs.declared.standing.Standing.{Standing}
use Rattle.pad_graph.specs.declared.standing.Standing.TheVariants as stand
use Rattle.pad_graph.specs.Chain.{Link, top, IsChain, GoesThrough}
use Rattle.pad_graph.specs.State as graph
use Rattle.pad_graph.specs.Graph.{Stands, IsStanding, AreDropped}
use Rattle.pad_model.specs.declared.base.Base.{Base}
use Rattle.pad_model.specs.Path.{last_name, IsLinkedPath, IsLinked, EachSound, NamesDiffer}
use Rattle.pad_model.specs.Choice.{RunsThrough}
use Rattle.pad_model.specs.Count.{IsWaiting}
use Rattle.pad_model.proofs.CallerLemmas.{linked_unique, linked_below, sound_below, through_trans}
use Rattle.pad_checkpoint.specs.declared.place.Place.{Place}
use Rattle.pad_checkpoint.specs.Place.{place_of}
use Rattle.pad_checkpoint.specs.Links.{link_of, names_of}
use Rattle.pad_checkpoint.proofs.CallerLemmas.{top_names, chain_of, path_of, through_names, through_paths}
use Rattle.pad_branch.specs.declared.held.Held.{Held}
use Rattle.pad_branch.specs.Held.{mark_of, marks}
use Rattle.pad_branch.specs.Pathless.{KnowsPathless, AreFound}
use Rattle.pad_branch.specs.Branch.{State, IsTrunk}
use Rattle.pad_branch.specs.Laws.{KnownAbove, FoundAbove}
use Rattle.pad_chain.specs.Tie.{IsKeptMessage}
use Rattle.pad_chain.specs.Inside.Tables.{is_among, AreLetGo}
use Rattle.pad_chain.proofs.Coming.{linked_name, path_named}
use Rattle.pad_chain.proofs.Below.{among_yes, among_if}
use Rattle.pad_chain.proofs.Keeping.{Keeps}

module _ (b : Base) (R root above upper joined : List Message) (links : List Link) (state : graph.State) (place : Place) (branch : State) (table : Name → Option Held) (found : List Name) (k : Keeps state place branch table found b R root above links) (split : above ≡ upper ++ joined) (new : graph.State) (stands : Stands new b.name links (names_of (joined ++ root))) (dropped : List Linking) (are : AreDropped b.name links (names_of root) (names_of (joined ++ root)) dropped) (after : Name → Option Held) (gone : AreLetGo table after dropped) where
  d : NamesDiffer R
  d = k.trunk.differ

  abbrev next : List Message
  next = joined ++ root

  next_linked : IsLinkedPath b R next
  next_linked = linked_below b R upper next (subst (IsLinkedPath b R) (ap (λ q. q ++ root) split ∙ append_assoc upper joined root) k.trunk.linked)

  root_linked : IsLinkedPath b R root
  root_linked = linked_below b R joined root next_linked

  -- a chain that runs to the name is that of the path
  chain_same : (p : List Message) (ns : List Name) → IsLinkedPath b R p → IsChain b.name links ns → top b.name ns ≡ last_name b p → ns ≡ names_of p
  chain_same p ns h chain is = go (path_of b R links k.are_links ns chain)
    where
      go : (q : List Message) × IsLinkedPath b R q × (names_of q ≡ ns) → ns ≡ names_of p
      go (q, g, e) = sym e ∙ ap names_of (linked_unique b R q p d g h (sym (top_names b q) ∙ ap (top b.name) e ∙ is))

  -- what was dropped does not run through the next root
  not_dropped : (p : List Message) → IsLinkedPath b R p → RunsThrough next p → is_among dropped (last_name b p) ≡ false
  not_dropped p h t = go (is_among dropped (last_name b p)) refl
    where
      out : (l : Linking) → Contains dropped l → l.name ≡ last_name b p → ⊥
      out l member named =
          let g = ((are.these l).0 member).1 in
          g.4 (subst (GoesThrough (names_of next)) (sym (chain_same p g.0 h g.1 (g.2 ∙ named))) (through_names next p t))

      go : (t : Bool) → is_among dropped (last_name b p) ≡ t → is_among dropped (last_name b p) ≡ false
      go false e = e
      go true e = absurd (let (l, member, named) = among_yes dropped (last_name b p) e in out l member named)

  -- what was dropped is linked
  dropped_linked : (x : Message) → Contains R x → ¬ (name_of x ≡ b.name) → is_among dropped (name_of x) ≡ true → IsLinked b R x
  dropped_linked x c apart e = go (among_yes dropped (name_of x) e)
    where
      found_at : (p : List Message) → IsLinkedPath b R p → last_name b p ≡ name_of x → IsLinked b R x
      found_at [] h is = absurd (apart (sym is))
      found_at (z ∷ p) h is = (p, subst (λ y. IsLinkedPath b R (y ∷ p)) (d z x h.0.member c is) h)

      go : (l : Linking) × Contains dropped l × (l.name ≡ name_of x) → IsLinked b R x
      go (l, member, named) =
          let kept = ((are.these l).0 member).0 in
          let (p, h, is, size) = path_named b R links k.are_links l.name l.height (kept.0, kept.1, kept.2, kept.3) in
          found_at p h (is ∙ named)

  -- a linked path that does not run through the next root ends in one of these
  is_dropped : (x : Message) (p : List Message) → IsLinkedPath b R (x ∷ p) → RunsThrough root (x ∷ p) → is_among dropped (name_of x) ≡ false → RunsThrough next (x ∷ p)
  is_dropped x p h t e = go (graph.standing new (name_of x)) (stands.standings (name_of x))
    where
      chain : IsChain b.name links (names_of (x ∷ p))
      chain = chain_of b R links k.are_links (x ∷ p) h

      go : (how : Standing) → IsStanding b.name links (names_of next) (name_of x) how → RunsThrough next (x ∷ p)
      go stand.Unknown fresh = absurd (fresh.1 (link_of x, k.are_links.every x h.0.member h.0.not_base, refl))
      go stand.Waiting w = absurd (w.1 (length (x ∷ p)) (linked_name b R links k.are_links (x ∷ p) h))
      go (stand.Linked height) (ns, c, is, size, through) = through_paths b R next (x ∷ p) d next_linked h (subst (GoesThrough (names_of next)) (chain_same (x ∷ p) ns h c is) through)
      go (stand.Gone height) (ns, c, is, size, out) =
          absurd (true≢false (sym (among_if dropped (record { height = height; name = name_of x }) ((are.these (record { height = height; name = name_of x })).1 ((ns, c, is, size, subst (GoesThrough (names_of root)) (sym (chain_same (x ∷ p) ns h c is)) (through_names root (x ∷ p) t)), (ns, c, is, size, out)))) ∙ e))

  stays_at : (q : Name) → is_among dropped q ≡ false → after q ≡ table q
  stays_at q e = gone q ∙ ap (λ t. cond t None (table q)) e

  pub mark_before : (q : Name) → marks after q ≡ true → marks table q ≡ true
  mark_before q e = go (is_among dropped q) (sym (ap mark_of (gone q)) ∙ e)
    where
      go : (t : Bool) → mark_of (cond t None (table q)) ≡ true → marks table q ≡ true
      go true h = absurd (true≢false (sym h))
      go false h = h

  from_root : (p : List Message) → RunsThrough next p → RunsThrough root p
  from_root p t = through_trans root next p (joined, refl) t

  longer : (x : Message) (p : List Message) → RunsThrough next p → RunsThrough next (x ∷ p)
  longer x p t = (x ∷ t.0, ap (λ q. x ∷ q) t.1)

  pub kept_at : (x : Message) (p : List Message) → IsLinkedPath b R (x ∷ p) → RunsThrough next p → after (name_of x) ≡ table (name_of x)
  kept_at x p h t = stays_at (name_of x) (not_dropped (x ∷ p) h (longer x p t))

  waits_at : (x : Message) → IsWaiting b R x → after (name_of x) ≡ table (name_of x)
  waits_at x w = stays_at (name_of x) (go (is_among dropped (name_of x)) refl)
    where
      go : (t : Bool) → is_among dropped (name_of x) ≡ t → is_among dropped (name_of x) ≡ false
      go false e = e
      go true e = absurd (w.2 (dropped_linked x w.0 w.1 e))

  above_only : (q : Name) (held : Held) → after q ≡ Some held → (name_of held.message ≡ q) × (IsKeptMessage b R next held.message ⊎ IsWaiting b R held.message)
  above_only q held at = go (is_among dropped q) refl (sym (gone q) ∙ at)
    where
      none_some : None ≡ Some held → ⊥
      none_some e = cc

      still : is_among dropped q ≡ false → (name_of held.message ≡ q) × (IsKeptMessage b R root held.message ⊎ IsWaiting b R held.message) → (name_of held.message ≡ q) × (IsKeptMessage b R next held.message ⊎ IsWaiting b R held.message)
      still e (named, inl (p, h, t)) = (named, inl (p, h, is_dropped held.message p h t (ap (is_among dropped) named ∙ e)))
      still e (named, inr w) = (named, inr w)

      go : (t : Bool) → is_among dropped q ≡ t → cond t None (table q) ≡ Some held → (name_of held.message ≡ q) × (IsKeptMessage b R next held.message ⊎ IsWaiting b R held.message)
      go true e h = absurd (none_some h)
      go false e h = still e (k.only q held h)

  -- marks that are the same above the next root
  above_knows : KnowsPathless b R next (marks table) → KnowsPathless b R next (marks after)
  above_knows h = record {
    at_root = root_free (marks after (last_name b next)) refl;
    really = λ x p linked e. h.really x p linked (mark_before (name_of x) e);
    passed = λ x p linked t e. ap mark_of (kept_at x p linked t) ∙ h.passed x p linked t (mark_before (last_name b p) e);
  }
    where
      root_free : (t : Bool) → marks after (last_name b next) ≡ t → marks after (last_name b next) ≡ false
      root_free false e = e
      root_free true e = absurd (true≢false (sym (mark_before (last_name b next) e) ∙ h.at_root))

  above_found : AreFound b R next (marks table) found → AreFound b R next (marks after) found
  above_found h = record {
    once = h.once;
    each = h.each;
    marked = λ q x p c is linked t. subst (λ n. marks after n ≡ true) is (ap mark_of (kept_at x p linked t) ∙ subst (λ n. marks table n ≡ true) (sym is) (h.marked q x p c is linked t));
  }

  pub rises : KnownAbove → FoundAbove → EachSound b (upper ++ next) → (to : Place) → to ≡ place_of b next → (risen : State) → IsTrunk b R next upper risen → Keeps new to risen after found b R next upper links
  rises known_above found_above sound to at risen trunk = record {
    are_links = k.are_links;
    stands = stands;
    at_root = at;
    trunk = trunk;
    holds = λ x p h t. let (held, there, is) = k.holds x p h (from_root p t) in (held, kept_at x p h t ∙ there, is);
    waits = λ x w. let (held, there, is, free) = k.waits x w in (held, waits_at x w ∙ there, is, free);
    only = above_only;
    knows = above_knows (known_above b R root next (marks table) k.knows next_linked (sound_below b upper next sound) (joined, refl));
    are = above_found (found_above b R root next (marks table) found k.are (joined, refl));
  }
