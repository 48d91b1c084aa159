-- A message on one that is marked: what it links is marked, and the choice stays.
use Rattle.std.proofs.Common.{◌≡◌, ◌⊎◌, inl, inr, List, [], ◌∷◌, ◌++◌, Bool, true, false, cond, Option, Some, None, option_map, refl, sym, ap, ◌∙◌, subst}
use Rattle.pad_text.specs.declared.name.Name.{Name}
use Rattle.pad_message.specs.declared.message.Message.{Message}
use Rattle.pad_message.specs.Message.{name_of}
use Rattle.pad_graph.specs.declared.linking.Linking.{Linking}
use Rattle.pad_graph.specs.declared.added.Added.TheVariants.{Linked}
use Rattle.pad_graph.specs.Added.{IsAdded}
use Rattle.pad_graph.specs.State as graph
use Rattle.pad_graph.specs.Graph.{Stands}
use Rattle.pad_list.proofs.CallerLemmas.{contains_more}
use Rattle.pad_model.specs.declared.base.Base.{Base}
use Rattle.pad_model.specs.Path.{last_name, IsLinkedPath, IsPath, NamesDiffer}
use Rattle.pad_model.specs.Choice.{Choice, IsBestThrough}
use Rattle.pad_model.specs.Count.{IsWaiting}
use Rattle.pad_model.specs.Laws.{OnlyNewPaths}
use Rattle.pad_model.proofs.CallerLemmas.{linked_below, path_more, never_better_itself}
use Rattle.pad_checkpoint.specs.Links.{link_of, names_of}
use Rattle.pad_branch.specs.declared.held.Held.{Held}
use Rattle.pad_branch.specs.Held.{message_at, mark_of, marks}
use Rattle.pad_branch.specs.Pathless.{KnowsPathless, AreFound}
use Rattle.pad_branch.specs.Laws.{FoundStays, TrunkStays, MarksPass}
use Rattle.pad_chain.specs.State.{View, held_of}
use Rattle.pad_chain.specs.Tie.{StandsFor}
use Rattle.pad_chain.specs.Inside.Tables.{is_among, with_mark, IsPut, AreMarked}
use Rattle.pad_chain.proofs.Coming.{Passes, not_in}
use Rattle.pad_chain.proofs.Put.{put_marks}
use Rattle.pad_chain.proofs.Ready.{now_holds}
use Rattle.pad_chain.proofs.Keeping.{Keeps, new_among, path_among, over_root, m_not_waiting, linked_keeps}

module _ (old new : Name → Option Held) (linkings : List Linking) (marked : AreMarked old new linkings) where
  pub same_messages : (q : Name) → message_at new q ≡ message_at old q
  same_messages q = ap (λ (o : Option Held). option_map (λ (held : Held). held.message) o) (marked q) ∙ go (is_among linkings q) (old q)
    where
      go : (t : Bool) (o : Option Held) → option_map (λ (held : Held). held.message) (cond t (option_map with_mark o) o) ≡ option_map (λ (held : Held). held.message) o
      go true None = refl
      go true (Some held) = refl
      go false o = refl

  pub marks_out : (q : Name) → is_among linkings q ≡ false → marks new q ≡ marks old q
  marks_out q e = ap mark_of (marked q ∙ ap (λ t. cond t (option_map with_mark (old q)) (old q)) e)

  pub marks_in : (q : Name) (held : Held) → is_among linkings q ≡ true → old q ≡ Some held → marks new q ≡ true
  marks_in q held e at = ap mark_of (marked q ∙ ap (λ t. cond t (option_map with_mark (old q)) (old q)) e ∙ ap (option_map with_mark) at)

  pub marks_stay : (q : Name) → marks old q ≡ true → marks new q ≡ true
  marks_stay q e = ap mark_of (marked q) ∙ go (is_among linkings q) (old q) e
    where
      go : (t : Bool) (o : Option Held) → mark_of o ≡ true → mark_of (cond t (option_map with_mark o) o) ≡ true
      go true None h = h
      go true (Some held) h = refl
      go false o h = h

module _ (b : Base) (R : List Message) (m : Message) (choice : Choice) (chain mid : View) (s : StandsFor chain b R choice) (d : NamesDiffer (m ∷ R)) (linkings : List Linking) (told : IsAdded b.name s.links (names_of choice.root) (link_of m) (Linked linkings)) (put : IsPut (held_of chain) (held_of mid) (name_of m) (Some (record { message = m; pathless = false }))) where
  -- where each new path ends in a marked message, no new path is sound, and the choice stays
  pub stays_best : OnlyNewPaths → (after : Name → Bool) → KnowsPathless b (m ∷ R) choice.root after
      → ((above under : List Message) → IsLinkedPath b (m ∷ R) (above ++ m ∷ under) → after (last_name b (above ++ m ∷ under)) ≡ true)
      → IsBestThrough b R choice.root choice.chosen → IsBestThrough b (m ∷ R) choice.root choice.chosen
  stays_best law after knows all best = law b R choice.root choice.chosen choice.chosen m best (path_more b R (m ∷ R) choice.chosen (contains_more m R) best.path) best.through (never_better_itself b choice.chosen) (λ above under path through. absurd (none above under path))
    where
      none : (above under : List Message) → IsPath b (m ∷ R) (above ++ m ∷ under) → ⊥
      none [] under path = knows.really m under path.0 (all [] under path.0) path.1
      none (x ∷ above) under path = knows.really x (above ++ m ∷ under) path.0 (all (x ∷ above) under path.0) path.1

  module _ (table : Name → Option Held) (marked : AreMarked (held_of mid) table linkings) where
    all_marked : (above under : List Message) → IsLinkedPath b (m ∷ R) (above ++ m ∷ under) → marks table (last_name b (above ++ m ∷ under)) ≡ true
    all_marked above under h = go above h (new_among b R m choice chain mid s d linkings told put (above ++ m ∷ under) h (record { above = above; under = under; whole = refl }))
      where
        at : (x : Message) (p : List Message) → IsLinkedPath b (m ∷ R) (x ∷ p) → Passes m (x ∷ p) → is_among linkings (name_of x) ≡ true → marks table (name_of x) ≡ true
        at x p h k e = let (held, there, is) = now_holds b R m choice chain mid s d linkings told put x p h (over_root b R m choice chain mid s d linkings told put x p h k) in marks_in (held_of mid) table linkings marked (name_of x) held e there

        go : (above : List Message) → IsLinkedPath b (m ∷ R) (above ++ m ∷ under) → is_among linkings (last_name b (above ++ m ∷ under)) ≡ true → marks table (last_name b (above ++ m ∷ under)) ≡ true
        go [] h e = at m under h (record { above = []; under = under; whole = refl }) e
        go (x ∷ above) h e = at x (above ++ m ∷ under) h (record { above = x ∷ above; under = under; whole = refl }) e

    only_these : (q : Name) → marks table q ≡ true → (marks (held_of chain) q ≡ true) ⊎ ((above : List Message) × (under : List Message) × IsLinkedPath b (m ∷ R) (above ++ m ∷ under) × (last_name b (above ++ m ∷ under) ≡ q))
    only_these q e = go (is_among linkings q) refl
      where
        go : (t : Bool) → is_among linkings q ≡ t → (marks (held_of chain) q ≡ true) ⊎ ((above : List Message) × (under : List Message) × IsLinkedPath b (m ∷ R) (above ++ m ∷ under) × (last_name b (above ++ m ∷ under) ≡ q))
        go true i = let (p, h, is, k) = path_among b R m choice chain mid s d linkings told put q i in inr (k.above, k.under, subst (IsLinkedPath b (m ∷ R)) k.whole h, ap (last_name b) (sym k.whole) ∙ is)
        go false i = inl (put_marks b R m choice chain s d told.0 mid put q ∙ sym (marks_out (held_of mid) table linkings marked q i) ∙ e)

    pub marked_knows : MarksPass → marks (held_of chain) m.parent ≡ true → KnowsPathless b (m ∷ R) choice.root (marks table)
    marked_knows law free = law b R choice.root m (marks (held_of chain)) (marks table) d (linked_below b R s.above choice.root s.trunk.linked) s.knows free
        (λ under h. not_in b R m s.links s.are_links d told.0 h.0.member)
        (λ under h. over_root b R m choice chain mid s d linkings told put m under h (record { above = []; under = under; whole = refl }))
        (λ q e. marks_stay (held_of mid) table linkings marked q (sym (put_marks b R m choice chain s d told.0 mid put q) ∙ e))
        all_marked only_these

    marked_found : FoundStays → AreFound b (m ∷ R) choice.root (marks table) chain.found
    marked_found law =
        let are = law b R choice.root m (marks (held_of chain)) chain.found d s.are_found in
        record {
          once = are.once;
          each = are.each;
          marked = λ q x p c is h t. marks_stay (held_of mid) table linkings marked q (sym (put_marks b R m choice chain s d told.0 mid put q) ∙ are.marked q x p c is h t);
        }

    marked_free : (x : Message) → IsWaiting b (m ∷ R) x → marks table (name_of x) ≡ false
    marked_free x w = marks_out (held_of mid) table linkings marked (name_of x) (out (is_among linkings (name_of x)) refl) ∙ sym (put_marks b R m choice chain s d told.0 mid put (name_of x)) ∙ free (s.waits x (m_not_waiting b R m choice chain mid s d linkings told put x w).1)
      where
        free : (held : Held) × (held_of chain (name_of x) ≡ Some held) × (held.message ≡ x) × (held.pathless ≡ false) → marks (held_of chain) (name_of x) ≡ false
        free (held, at, is, none) = ap mark_of at ∙ none

        linked : (p : List Message) → IsLinkedPath b (m ∷ R) p → last_name b p ≡ name_of x → ⊥
        linked [] h is = w.1 (sym is)
        linked (z ∷ p) h is = w.2 (p, subst (λ y. IsLinkedPath b (m ∷ R) (y ∷ p)) (d z x h.0.member w.0 is) h)

        out : (t : Bool) → is_among linkings (name_of x) ≡ t → is_among linkings (name_of x) ≡ false
        out false e = e
        out true e = absurd (let (p, h, is, k) = path_among b R m choice chain mid s d linkings told put (name_of x) e in linked p h is)

    pub marked_best : OnlyNewPaths → MarksPass → marks (held_of chain) m.parent ≡ true → IsBestThrough b R choice.root choice.chosen → IsBestThrough b (m ∷ R) choice.root choice.chosen
    marked_best only_new marks_pass parent best = stays_best only_new (marks table) (marked_knows marks_pass parent) all_marked best

    pub marked_keeps : FoundStays → TrunkStays → MarksPass → marks (held_of chain) m.parent ≡ true → (state : graph.State) → Stands state b.name (link_of m ∷ s.links) (names_of choice.root)
        → Keeps state chain.pruning.root chain.branch.branch table chain.found b (m ∷ R) choice.root s.above (link_of m ∷ s.links)
    marked_keeps found_stays trunk_stays marks_pass parent state stands =
        linked_keeps b R m choice chain mid s d linkings told put table (same_messages (held_of mid) table linkings marked) marked_free state chain.branch.branch s.above chain.found stands
        (trunk_stays b R choice.root s.above m chain.branch.branch d s.trunk) (marked_knows marks_pass parent) (marked_found found_stays)
