-- What was found out is marked, where it is linked through the root.
use Rattle.std.proofs.Common.{◌≡◌, ◌||◌, ◌&&◌, ℕ, ◌⊎◌, inl, inr, List, [], ◌∷◌, length, Bool, true, false, cond, Option, Some, None, option_map, IfSome, is_eq, refl, sym, ap, ◌∙◌, subst}
use Rattle.std.specs.BTreeSet.{BTreeSet, contains, Updates}
use Rattle.pad_text.specs.declared.name.Name.{Name}
use Rattle.pad_message.specs.declared.message.Message.{Message}
use Rattle.pad_message.specs.Message.{name_of}
use Rattle.pad_graph.specs.declared.standing.Standing.{Standing}
use Rattle.pad_graph.specs.declared.standing.Standing.TheVariants as stand
use Rattle.pad_graph.specs.Chain.{Link, top, GoesThrough}
use Rattle.pad_graph.specs.State as graph
use Rattle.pad_graph.specs.Graph.{IsStanding}
use Rattle.pad_model.specs.declared.base.Base.{Base}
use Rattle.pad_model.specs.Path.{last_name, IsLinkedPath}
use Rattle.pad_model.specs.Choice.{RunsThrough}
use Rattle.pad_model.specs.Count.{IsWaiting}
use Rattle.pad_model.proofs.CallerLemmas.{linked_unique}
use Rattle.pad_checkpoint.specs.declared.place.Place.{Place}
use Rattle.pad_checkpoint.specs.Links.{link_of, names_of}
use Rattle.pad_checkpoint.proofs.CallerLemmas.{top_names, path_of, through_names}
use Rattle.pad_branch.specs.declared.held.Held.{Held}
use Rattle.pad_branch.specs.Held.{IsHeldAs, message_at, mark_of, marks}
use Rattle.pad_branch.specs.Pathless.{KnowsPathless, AreFound, pathless_in}
use Rattle.pad_branch.specs.Branch.{State}
use Rattle.pad_chain.specs.Tie.{IsKeptMessage}
use Rattle.pad_chain.specs.Inside.Tables.{is_linked, with_mark, IsMarked, IsNoted, AreNoted}
use Rattle.pad_chain.proofs.Names.{name_same}
use Rattle.pad_chain.proofs.Coming.{linked_name, path_named}
use Rattle.pad_chain.proofs.Keeping.{Keeps, message_held, held_message}
use Rattle.pad_chain.proofs.Winning.{fewer_known, fewer_found}

-- ---- the loop over the names

-- what the table will be, if the names that are left are noted
abbrev pub noted_at : (Name → Option Held) → BTreeSet Name → graph.State → Name → Option Held
noted_at table names state q = cond (contains graph.name_cmp names q && is_linked (graph.standing state q)) (option_map with_mark (table q)) (table q)

module _ (now new : Name → Option Held) (names rest : BTreeSet Name) (state : graph.State) (n : Name) where
  pub note_next : Updates graph.name_cmp names rest n false → contains graph.name_cmp names n ≡ true → IsNoted now new n state → (q : Name) → noted_at new rest state q ≡ noted_at now names state q
  note_next step member noted q = go (is_eq (graph.name_cmp n q)) refl (step.0 q) (noted q)
    where
      linked : Bool
      linked = is_linked (graph.standing state q)

      at_n : is_eq (graph.name_cmp n q) ≡ true → (cond (true && is_linked (graph.standing state n)) (option_map with_mark (now q)) (now q)) ≡ noted_at now names state q
      at_n e = ap (λ t. cond (true && t) (option_map with_mark (now q)) (now q)) (ap (λ m. is_linked (graph.standing state m)) (name_same n q e))
          ∙ ap (λ t. cond (t && is_linked (graph.standing state q)) (option_map with_mark (now q)) (now q)) (sym (ap (contains graph.name_cmp names) (sym (name_same n q e)) ∙ member))

      go : (t : Bool) → is_eq (graph.name_cmp n q) ≡ t → contains graph.name_cmp rest q ≡ cond t false (contains graph.name_cmp names q) → new q ≡ cond (t && is_linked (graph.standing state n)) (option_map with_mark (now q)) (now q) → noted_at new rest state q ≡ noted_at now names state q
      go true e out at = ap (λ t. cond (t && is_linked (graph.standing state q)) (option_map with_mark (new q)) (new q)) out ∙ at ∙ at_n e
      go false e out at = ap (λ t. cond (t && is_linked (graph.standing state q)) (option_map with_mark (new q)) (new q)) out ∙ ap (λ o. cond (contains graph.name_cmp names q && is_linked (graph.standing state q)) (option_map with_mark o) o) at

pub note_none : (table : Name → Option Held) (names : BTreeSet Name) (state : graph.State) (q : Name) → names.keys ≡ [] → noted_at table names state q ≡ table q
note_none table names state q e = ap (λ (ks : List Name). cond (contains graph.name_cmp (record names { keys = ks }) q && is_linked (graph.standing state q)) (option_map with_mark (table q)) (table q)) e

-- one name: it is linked, or it is not
pub note_linked : (old new : Name → Option Held) (n : Name) (state : graph.State) → is_linked (graph.standing state n) ≡ true → IsMarked old new n → IsNoted old new n state
note_linked old new n state e marked q = marked q ∙ ap (λ t. cond t (option_map with_mark (old q)) (old q)) (and_true (is_eq (graph.name_cmp n q)) ∙ ap (λ t. is_eq (graph.name_cmp n q) && t) (sym e))
  where
    and_true : (t : Bool) → t ≡ t && true
    and_true true = refl
    and_true false = refl

pub note_other : (old : Name → Option Held) (n : Name) (state : graph.State) → is_linked (graph.standing state n) ≡ false → IsNoted old old n state
note_other old n state e q = sym (ap (λ t. cond t (option_map with_mark (old q)) (old q)) (ap (λ t. is_eq (graph.name_cmp n q) && t) e ∙ and_false (is_eq (graph.name_cmp n q))))
  where
    and_false : (t : Bool) → t && false ≡ false
    and_false true = refl
    and_false false = refl

pub not_linked : (how : Standing) → ((height : ℕ) → how ≡ stand.Linked height → ⊥) → is_linked how ≡ false
not_linked stand.Unknown h = refl
not_linked stand.Waiting h = refl
not_linked (stand.Linked height) h = absurd (h height refl)
not_linked (stand.Gone height) h = refl

-- ---- what a chain keeps then

or_cases : (t u : Bool) → t || u ≡ true → (t ≡ true) ⊎ (u ≡ true)
or_cases true u e = inl refl
or_cases false u e = inr e

or_left : (t u : Bool) → t ≡ true → t || u ≡ true
or_left t u e = ap (λ v. v || u) e

or_right : (t u : Bool) → u ≡ true → t || u ≡ true
or_right true u e = refl
or_right false u e = e

and_left : (t u : Bool) → t && u ≡ true → t ≡ true
and_left true u e = refl
and_left false u e = e

module _ (table after : Name → Option Held) (names : BTreeSet Name) (state : graph.State) (noted : AreNoted table after names state) where
  pub noted_messages : (q : Name) → message_at after q ≡ message_at table q
  noted_messages q = ap (λ (o : Option Held). option_map (λ (held : Held). held.message) o) (noted q) ∙ go (contains graph.name_cmp names q && is_linked (graph.standing state q)) (table q)
    where
      go : (t : Bool) (o : Option Held) → option_map (λ (held : Held). held.message) (cond t (option_map with_mark o) o) ≡ option_map (λ (held : Held). held.message) o
      go true None = refl
      go true (Some held) = refl
      go false o = refl

  pub noted_held : ((q : Name) → IfSome (table q) (IsHeldAs q)) → (q : Name) → IfSome (after q) (IsHeldAs q)
  noted_held h q = subst (λ o. IfSome o (IsHeldAs q)) (sym (noted q)) (go (contains graph.name_cmp names q && is_linked (graph.standing state q)) (table q) (h q))
    where
      go : (t : Bool) (o : Option Held) → IfSome o (IsHeldAs q) → IfSome (cond t (option_map with_mark o) o) (IsHeldAs q)
      go true None i = i
      go true (Some held) i = record { interval = i.interval; named = i.named }
      go false o i = i

  noted_stays : (q : Name) → is_linked (graph.standing state q) ≡ false → after q ≡ table q
  noted_stays q e = noted q ∙ ap (λ t. cond t (option_map with_mark (table q)) (table q)) (ap (λ t. contains graph.name_cmp names q && t) e ∙ and_false (contains graph.name_cmp names q))
    where
      and_false : (t : Bool) → t && false ≡ false
      and_false true = refl
      and_false false = refl

  noted_still : (q : Name) → marks table q ≡ true → marks after q ≡ true
  noted_still q e = ap mark_of (noted q) ∙ go (contains graph.name_cmp names q && is_linked (graph.standing state q)) (table q) e
    where
      go : (t : Bool) (o : Option Held) → mark_of o ≡ true → mark_of (cond t (option_map with_mark o) o) ≡ true
      go true None h = h
      go true (Some held) h = refl
      go false o h = h

  noted_only : (q : Name) → marks after q ≡ true → (marks table q ≡ true) ⊎ (contains graph.name_cmp names q ≡ true)
  noted_only q e = go (contains graph.name_cmp names q && is_linked (graph.standing state q)) refl (sym (ap mark_of (noted q)) ∙ e)
    where
      go : (t : Bool) → contains graph.name_cmp names q && is_linked (graph.standing state q) ≡ t → mark_of (cond t (option_map with_mark (table q)) (table q)) ≡ true → (marks table q ≡ true) ⊎ (contains graph.name_cmp names q ≡ true)
      go true among h = inr (and_left (contains graph.name_cmp names q) (is_linked (graph.standing state q)) among)
      go false among h = inl h

  noted_if : (q : Name) (held : Held) → table q ≡ Some held → contains graph.name_cmp names q ≡ true → is_linked (graph.standing state q) ≡ true → marks after q ≡ true
  noted_if q held at among linked = ap mark_of (noted q ∙ ap (λ t. cond t (option_map with_mark (table q)) (table q)) (ap (λ t. t && is_linked (graph.standing state q)) among ∙ linked) ∙ ap (option_map with_mark) at)

  module _ (b : Base) (R root above : List Message) (links : List Link) (place : Place) (branch : State) (found more : List Name) (k : Keeps state place branch table found b R root above links) where
    -- a message linked through the root is known as linked
    kept_linked : (x : Message) (p : List Message) → IsLinkedPath b R (x ∷ p) → RunsThrough root (x ∷ p) → is_linked (graph.standing state (name_of x)) ≡ true
    kept_linked x p h t = go (graph.standing state (name_of x)) (k.stands.standings (name_of x))
      where
        go : (how : Standing) → IsStanding b.name links (names_of root) (name_of x) how → is_linked how ≡ true
        go stand.Unknown fresh = absurd (fresh.1 (link_of x, k.are_links.every x h.0.member h.0.not_base, refl))
        go stand.Waiting w = absurd (w.1 (length (x ∷ p)) (linked_name b R links k.are_links (x ∷ p) h))
        go (stand.Linked height) kept = refl
        go (stand.Gone height) (ns, chain, is, size, out) = absurd (found_at (path_of b R links k.are_links ns chain))
          where
            found_at : (q : List Message) × IsLinkedPath b R q × (names_of q ≡ ns) → ⊥
            found_at (q, g, e) =
                let same : q ≡ x ∷ p = linked_unique b R q (x ∷ p) k.trunk.differ g h (sym (top_names b q) ∙ ap (top b.name) e ∙ is) in
                out (subst (GoesThrough (names_of root)) e (through_names root q (subst (RunsThrough root) (sym same) t)))

    -- one that waits is not
    waits_unlinked : (x : Message) → IsWaiting b R x → is_linked (graph.standing state (name_of x)) ≡ false
    waits_unlinked x w = go (graph.standing state (name_of x)) (k.stands.standings (name_of x))
      where
        at : (p : List Message) → IsLinkedPath b R p → last_name b p ≡ name_of x → ⊥
        at [] h is = w.1 (sym is)
        at (z ∷ p) h is = w.2 (p, subst (λ y. IsLinkedPath b R (y ∷ p)) (k.trunk.differ z x h.0.member w.0 is) h)

        go : (how : Standing) → IsStanding b.name links (names_of root) (name_of x) how → is_linked how ≡ false
        go stand.Unknown fresh = refl
        go stand.Waiting waiting = refl
        go (stand.Linked height) (ns, chain, is, size, through) = absurd (let (p, h, named, long) = path_named b R links k.are_links (name_of x) height (ns, chain, is, size) in at p h named)
        go (stand.Gone height) gone = refl

    -- `before` had the same marks on what is kept
    module _ (before : Name → Option Held) (sub : (q : Name) → marks table q ≡ true → marks before q ≡ true) (same : (x : Message) (p : List Message) → IsLinkedPath b R (x ∷ p) → RunsThrough root p → marks before (name_of x) ≡ true → marks table (name_of x) ≡ true) where
      less : (q : Name) → marks after q ≡ true → pathless_in before names q ≡ true
      less q e = go (noted_only q e)
        where
          go : (marks table q ≡ true) ⊎ (contains graph.name_cmp names q ≡ true) → pathless_in before names q ≡ true
          go (inl h) = or_left (marks before q) (contains graph.name_cmp names q) (sub q h)
          go (inr h) = or_right (marks before q) (contains graph.name_cmp names q) h

      back : (x : Message) (p : List Message) → IsLinkedPath b R (x ∷ p) → RunsThrough root p → pathless_in before names (name_of x) ≡ true → marks after (name_of x) ≡ true
      back x p h t e = go (or_cases (marks before (name_of x)) (contains graph.name_cmp names (name_of x)) e)
        where
          go : (marks before (name_of x) ≡ true) ⊎ (contains graph.name_cmp names (name_of x) ≡ true) → marks after (name_of x) ≡ true
          go (inl i) = noted_still (name_of x) (same x p h t i)
          go (inr i) = let (held, at, is) = k.holds x p h t in noted_if (name_of x) held at i (kept_linked x p h (x ∷ t.0, ap (λ q. x ∷ q) t.1))

      pub noted_keeps : KnowsPathless b R root (pathless_in before names) → AreFound b R root (pathless_in before names) more → Keeps state place branch after more b R root above links
      noted_keeps knows are = record {
        are_links = k.are_links;
        stands = k.stands;
        at_root = k.at_root;
        trunk = k.trunk;
        holds = λ x p h t. holds x (k.holds x p h t);
        waits = λ x w. let (held, at, is, free) = k.waits x w in (held, noted_stays (name_of x) (waits_unlinked x w) ∙ at, is, free);
        only = λ q held at. only q held (message_held table q held.message (sym (noted_messages q) ∙ held_message after q held at));
        knows = fewer_known b R root (pathless_in before names) (marks after) less back knows;
        are = fewer_found b R root (pathless_in before names) (marks after) less back more are;
      }
        where
          holds : (x : Message) → (held : Held) × (table (name_of x) ≡ Some held) × (held.message ≡ x) → (held : Held) × (after (name_of x) ≡ Some held) × (held.message ≡ x)
          holds x (held, at, is) = let (other, there, e) = message_held after (name_of x) held.message (noted_messages (name_of x) ∙ held_message table (name_of x) held at) in (other, there, e ∙ is)

          only : (q : Name) (held : Held) → (old : Held) × (table q ≡ Some old) × (old.message ≡ held.message) → (name_of held.message ≡ q) × (IsKeptMessage b R root held.message ⊎ IsWaiting b R held.message)
          only q held (old, at, is) = subst (λ x. (name_of x ≡ q) × (IsKeptMessage b R root x ⊎ IsWaiting b R x)) is (k.only q old at)
