-- What a chain keeps above its root, without what it chooses; how that comes about as a message is linked.
use Rattle.std.proofs.Common.{◌≡◌, ◌≢◌, ◌⊎◌, inl, inr, List, [], ◌∷◌, ◌++◌, length, Contains, Bool, true, false, cond, Option, Some, None, option_map, is_eq, refl, sym, ap, ◌∙◌, subst, true≢false}
use Rattle.pad_text.specs.declared.name.Name.{Name}
use Rattle.pad_message.specs.declared.message.Message.{Message}
use Rattle.pad_message.specs.Message.{name_of}
use Rattle.pad_graph.specs.declared.linking.Linking.{Linking}
use Rattle.pad_graph.specs.declared.added.Added.TheVariants.{Linked}
use Rattle.pad_graph.specs.Added.{IsAdded}
use Rattle.pad_graph.specs.Chain.{Link}
use Rattle.pad_graph.specs.State as graph
use Rattle.pad_graph.specs.Graph.{Stands}
use Rattle.pad_list.proofs.CallerLemmas.{contains_head, contains_more, contains_cases, mapped_from}
use Rattle.pad_model.specs.declared.base.Base.{Base}
use Rattle.pad_model.specs.Path.{last_name, IsLinkedPath, IsLinked, NamesDiffer}
use Rattle.pad_model.specs.Choice.{RunsThrough, Choice}
use Rattle.pad_model.specs.Count.{IsWaiting}
use Rattle.pad_model.proofs.CallerLemmas.{linked_below}
use Rattle.pad_checkpoint.specs.declared.place.Place.{Place}
use Rattle.pad_checkpoint.specs.Place.{place_of}
use Rattle.pad_checkpoint.specs.Links.{link_of, names_of, AreLinks}
use Rattle.pad_checkpoint.proofs.CallerLemmas.{links_more}
use Rattle.pad_branch.specs.declared.held.Held.{Held}
use Rattle.pad_branch.specs.Held.{HoldsKept, message_at, mark_of, marks}
use Rattle.pad_branch.specs.Pathless.{KnowsPathless, AreFound}
use Rattle.pad_branch.specs.Branch.{State, IsTrunk}
use Rattle.pad_chain.specs.State.{View, held_of}
use Rattle.pad_chain.specs.Tie.{IsChosen, IsKeptMessage, StandsFor}
use Rattle.pad_chain.specs.Inside.Tables.{IsPut, is_among}
use Rattle.pad_chain.proofs.Names.{name_same}
use Rattle.pad_chain.proofs.Coming.{Passes, linked_new, more_path, on_path, becomes_passing, passing_becomes, not_in}
use Rattle.pad_chain.proofs.Put.{put_keeps}
use Rattle.pad_chain.proofs.Below.{among_yes, among_if}
use Rattle.pad_chain.proofs.Joining.{join_through}
use Rattle.pad_chain.proofs.Ready.{now_holds}

-- all that `StandsFor` says of a chain, but for what is chosen and what overtook
pub record Keeps (state : graph.State) (place : Place) (branch : State) (table : Name → Option Held) (found : List Name) (base : Base) (received root above : List Message) (links : List Link) : Type 0 where
  pub are_links : AreLinks base received links
  pub stands : Stands state base.name links (names_of root)
  pub at_root : place ≡ place_of base root
  pub trunk : IsTrunk base received root above branch
  pub holds : HoldsKept base received root table
  pub waits : (message : Message) → IsWaiting base received message → (held : Held) × (table (name_of message) ≡ Some held) × (held.message ≡ message) × (held.pathless ≡ false)
  pub only : (name : Name) (held : Held) → table name ≡ Some held → (name_of held.message ≡ name) × (IsKeptMessage base received root held.message ⊎ IsWaiting base received held.message)
  pub knows : KnowsPathless base received root (marks table)
  pub are : AreFound base received root (marks table) found

-- with what is chosen it is all
pub stands_so : (new : View) (b : Base) (R : List Message) (next : Choice) (above : List Message) (links : List Link) → Keeps (graph.state_of new.graph) new.pruning.root new.branch.branch (held_of new) new.found b R next.root above links
    → IsChosen new.whole b R next → new.pruning.overtaken ≡ next.overtaken → next.chosen ≡ above ++ next.root → StandsFor new b R next
stands_so new b R next above links k chosen over through = record {
  chosen = chosen;
  links = links;
  are_links = k.are_links;
  stands = k.stands;
  at_root = k.at_root;
  overtook = over;
  above = above;
  through = through;
  trunk = k.trunk;
  holds = k.holds;
  waits = k.waits;
  only = k.only;
  knows = k.knows;
  are_found = k.are;
}

-- ---- tables with the same messages

pub some_same : {A : Type 0} (x y : A) → Some x ≡ Some y → x ≡ y
some_same x y e = cc

pub none_some : {A : Type 0} (x : A) → None ≡ Some x → ⊥
none_some x e = cc

pub message_held : (table : Name → Option Held) (q : Name) (x : Message) → message_at table q ≡ Some x → (held : Held) × (table q ≡ Some held) × (held.message ≡ x)
message_held table q x e = go (table q) refl
  where
    go : (o : Option Held) → table q ≡ o → (held : Held) × (table q ≡ Some held) × (held.message ≡ x)
    go None at = absurd (none_some x (sym (ap (λ (o : Option Held). option_map (λ (held : Held). held.message) o) at) ∙ e))
    go (Some held) at = (held, at, some_same held.message x (sym (ap (λ (o : Option Held). option_map (λ (held : Held). held.message) o) at) ∙ e))

pub held_message : (table : Name → Option Held) (q : Name) (held : Held) → table q ≡ Some held → message_at table q ≡ Some held.message
held_message table q held at = ap (λ (o : Option Held). option_map (λ (held : Held). held.message) o) at

-- ---- a message that is linked through the root

module _ (b : Base) (R : List Message) (m : Message) (choice : Choice) (chain mid : View) (s : StandsFor chain b R choice) (d : NamesDiffer (m ∷ R)) (linkings : List Linking) (told : IsAdded b.name s.links (names_of choice.root) (link_of m) (Linked linkings)) (put : IsPut (held_of chain) (held_of mid) (name_of m) (Some (record { message = m; pathless = false }))) where
  -- a new path ends in one of these
  pub new_among : (p : List Message) → IsLinkedPath b (m ∷ R) p → Passes m p → is_among linkings (last_name b p) ≡ true
  new_among p h k = among_if linkings (record { height = length p; name = last_name b p }) ((told.1.newly.these (record { height = length p; name = last_name b p })).1 (passing_becomes b R m s.links s.are_links d told.0 p h k))

  -- the path of one of these
  pub path_among : (q : Name) → is_among linkings q ≡ true → (p : List Message) × IsLinkedPath b (m ∷ R) p × (last_name b p ≡ q) × Passes m p
  path_among q e =
      let (l, member, named) = among_yes linkings q e in
      let (p, h, is, size, k) = becomes_passing b R m s.links s.are_links d told.0 l.name l.height ((told.1.newly.these l).0 member) in
      (p, h, is ∙ named, k)

  -- the root is older than the message
  pub root_without : Contains choice.root m → ⊥
  root_without c = not_in b R m s.links s.are_links d told.0 (on_path b R choice.root m (linked_below b R s.above choice.root s.trunk.linked) c)

  -- a new path is a message on a path through the root
  pub over_root : (x : Message) (p : List Message) → IsLinkedPath b (m ∷ R) (x ∷ p) → Passes m (x ∷ p) → RunsThrough choice.root p
  over_root x p h k = go (join_through b R m choice chain s d linkings told (x ∷ p) h k)
    where
      inside : (u v : List Message) → Contains (u ++ m ∷ v) m
      inside [] v = contains_head m v
      inside (y ∷ u) v = contains_more y (u ++ m ∷ v) m (inside u v)

      tail : (y : Message) (u : List Message) → x ∷ p ≡ y ∷ u → p ≡ u
      tail y u e = cc

      go : RunsThrough choice.root (x ∷ p) → RunsThrough choice.root p
      go ([], e) = absurd (root_without (subst (λ q. Contains q m) (sym k.whole ∙ e) (inside k.above k.under)))
      go (y ∷ u, e) = (u, tail y (u ++ choice.root) e)

  -- the message on its own path
  pub own_path : (under : List Message) × IsLinkedPath b (m ∷ R) (m ∷ under)
  own_path =
      let (l, member, named) = mapped_from (λ (x : Linking). x.name) linkings (name_of m) told.3 in
      let (p, h, is, k) = path_among (name_of m) (subst (λ n. is_among linkings n ≡ true) named (among_if linkings l member)) in
      (k.under, linked_below b (m ∷ R) k.above (m ∷ k.under) (subst (IsLinkedPath b (m ∷ R)) k.whole h))

  pub m_kept : IsKeptMessage b (m ∷ R) choice.root m
  m_kept = (own_path.0, own_path.1, join_through b R m choice chain s d linkings told (m ∷ own_path.0) own_path.1 (record { above = []; under = own_path.0; whole = refl }))

  -- what is newly linked is kept
  kept_new : (x : Message) → Contains (m ∷ R) x → name_of x ≢ b.name → is_among linkings (name_of x) ≡ true → IsKeptMessage b (m ∷ R) choice.root x
  kept_new x c apart e = go (path_among (name_of x) e)
    where
      go : (p : List Message) × IsLinkedPath b (m ∷ R) p × (last_name b p ≡ name_of x) × Passes m p → IsKeptMessage b (m ∷ R) choice.root x
      go ([], h, is, k) = absurd (apart (sym is))
      go (z ∷ p, h, is, k) = subst (IsKeptMessage b (m ∷ R) choice.root) (d z x h.0.member c is) (p, h, join_through b R m choice chain s d linkings told (z ∷ p) h k)

  -- what waits and is not newly linked waits on
  waits_on : (x : Message) → IsWaiting b R x → is_among linkings (name_of x) ≡ false → IsWaiting b (m ∷ R) x
  waits_on x w e = (contains_more m R x w.0, w.1, λ l. which l (linked_new b R m (x ∷ l.0) l.1))
    where
      which : (l : IsLinked b (m ∷ R) x) → IsLinkedPath b R (x ∷ l.0) ⊎ Passes m (x ∷ l.0) → ⊥
      which l (inl old) = w.2 (l.0, old)
      which l (inr k) = true≢false (sym (new_among (x ∷ l.0) l.1 k) ∙ e)

  pub both_on : (x : Message) → IsKeptMessage b R choice.root x ⊎ IsWaiting b R x → IsKeptMessage b (m ∷ R) choice.root x ⊎ IsWaiting b (m ∷ R) x
  both_on x (inl (p, h, t)) = inl (p, more_path b R m (x ∷ p) h, t)
  both_on x (inr w) = go (is_among linkings (name_of x)) refl
    where
      go : (t : Bool) → is_among linkings (name_of x) ≡ t → IsKeptMessage b (m ∷ R) choice.root x ⊎ IsWaiting b (m ∷ R) x
      go true e = inl (kept_new x (contains_more m R x w.0) w.1 e)
      go false e = inr (waits_on x w e)

  -- it is no message that waits
  pub m_not_waiting : (x : Message) → IsWaiting b (m ∷ R) x → Contains R x × IsWaiting b R x
  m_not_waiting x w = go (contains_cases m R x w.0)
    where
      go : (m ≡ x) ⊎ Contains R x → Contains R x × IsWaiting b R x
      go (inl e) = absurd (w.2 (subst (IsLinked b (m ∷ R)) e own_path))
      go (inr c) = (c, (c, w.1, λ l. w.2 (l.0, more_path b R m (x ∷ l.0) l.1)))

  mid_only : (q : Name) (held : Held) → held_of mid q ≡ Some held → (name_of held.message ≡ q) × (IsKeptMessage b (m ∷ R) choice.root held.message ⊎ IsWaiting b (m ∷ R) held.message)
  mid_only q held at = go (is_eq (graph.name_cmp (name_of m) q)) refl (sym (put q) ∙ at)
    where
      go : (t : Bool) → is_eq (graph.name_cmp (name_of m) q) ≡ t → cond t (Some (record { message = m; pathless = false })) (held_of chain q) ≡ Some held → (name_of held.message ≡ q) × (IsKeptMessage b (m ∷ R) choice.root held.message ⊎ IsWaiting b (m ∷ R) held.message)
      go true e h =
          let is : m ≡ held.message = ap (λ (x : Held). x.message) (some_same (record { message = m; pathless = false }) held h) in
          (ap name_of (sym is) ∙ name_same (name_of m) q e, inl (subst (IsKeptMessage b (m ∷ R) choice.root) is m_kept))
      go false e h = let o = s.only q held h in (o.0, both_on held.message o.1)

  -- a table with the same messages, and marks of which these facts hold
  module _ (table : Name → Option Held) (same : (q : Name) → message_at table q ≡ message_at (held_of mid) q) (free : (x : Message) → IsWaiting b (m ∷ R) x → marks table (name_of x) ≡ false) where
    kept_so : (q : Name) (held : Held) → held_of mid q ≡ Some held → (other : Held) × (table q ≡ Some other) × (other.message ≡ held.message)
    kept_so q held at = message_held table q held.message (same q ∙ held_message (held_of mid) q held at)

    pub linked_keeps : (state : graph.State) (branch : State) (above : List Message) (found : List Name) → Stands state b.name (link_of m ∷ s.links) (names_of choice.root) → IsTrunk b (m ∷ R) choice.root above branch
        → KnowsPathless b (m ∷ R) choice.root (marks table) → AreFound b (m ∷ R) choice.root (marks table) found
        → Keeps state chain.pruning.root branch table found b (m ∷ R) choice.root above (link_of m ∷ s.links)
    linked_keeps state branch above found stands trunk knows are = record {
      are_links = links_more b R m s.links s.are_links;
      stands = stands;
      at_root = s.at_root;
      trunk = trunk;
      holds = λ x p h t. again x (now_holds b R m choice chain mid s d linkings told put x p h t);
      waits = λ x w. waits x w (s.waits x (m_not_waiting x w).1);
      only = λ q held at. only q held (message_held (held_of mid) q held.message (sym (same q) ∙ held_message table q held at));
      knows = knows;
      are = are;
    }
      where
        again : (x : Message) → (held : Held) × (held_of mid (name_of x) ≡ Some held) × (held.message ≡ x) → (held : Held) × (table (name_of x) ≡ Some held) × (held.message ≡ x)
        again x (held, at, is) = let (other, there, e) = kept_so (name_of x) held at in (other, there, e ∙ is)

        waits : (x : Message) → IsWaiting b (m ∷ R) x → (held : Held) × (held_of chain (name_of x) ≡ Some held) × (held.message ≡ x) × (held.pathless ≡ false) → (held : Held) × (table (name_of x) ≡ Some held) × (held.message ≡ x) × (held.pathless ≡ false)
        waits x w (held, at, is, none) =
            let (other, there, e) = kept_so (name_of x) held (put_keeps b R m choice chain s d told.0 mid put (name_of x) held at) in
            (other, there, e ∙ is, sym (ap mark_of there) ∙ free x w)

        only : (q : Name) (held : Held) → (old : Held) × (held_of mid q ≡ Some old) × (old.message ≡ held.message) → (name_of held.message ≡ q) × (IsKeptMessage b (m ∷ R) choice.root held.message ⊎ IsWaiting b (m ∷ R) held.message)
        only q held (old, at, is) = subst (λ x. (name_of x ≡ q) × (IsKeptMessage b (m ∷ R) choice.root x ⊎ IsWaiting b (m ∷ R) x)) is (mid_only q old at)
