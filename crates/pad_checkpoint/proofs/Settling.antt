-- How the root moves.
use Rattle.std.proofs.Common.{◌≡◌, ℕ, List, [], ◌∷◌, ◌++◌, length, Option, Some, None, drop, Bool, true, false, refl, sym, ap, ◌∙◌, subst, append_assoc}
use Rattle.std.specs.Prelude.{if◌then◌else◌}
use Rattle.pad_message.specs.Kind.{is_checkpoint}
use Rattle.pad_text.specs.declared.name.Name.{Name}
use Rattle.pad_message.specs.declared.message.Message.{Message}
use Rattle.pad_graph.specs.Chain.{Link, top, IsChain, GoesThrough, IsKeptName, IsGoneName}
use Rattle.pad_list.specs.Number.{IsNumberOf}
use Rattle.pad_graph.specs.State.{State, standing, IsHeld}
use Rattle.pad_graph.specs.declared.standing.Standing.{Standing}
use Rattle.pad_graph.specs.declared.standing.Standing.TheVariants.{Unknown, Waiting, Linked, Gone}
use Rattle.pad_graph.specs.Graph.{Stands, IsNewName, IsStanding, AreDropped, IsDropped}
use Rattle.pad_graph.specs.Laws.{ChainsAreOne}
use Rattle.pad_model.specs.declared.base.Base.{Base}
use Rattle.pad_model.specs.Path.{IsLinkedPath}
use Rattle.pad_model.specs.Choice.{to_checkpoint, cut, higher}
use Rattle.pad_list.proofs.CallerLemmas.{contains_none}
use Rattle.pad_model.proofs.CallerLemmas.{linked_below}
use Rattle.pad_checkpoint.specs.declared.place.Place.{Place}
use Rattle.pad_checkpoint.specs.declared.path_mark.PathMark.{PathMark}
use Rattle.pad_checkpoint.specs.Place.{place_of}
use Rattle.pad_checkpoint.specs.Cut.{last_but_one}
use Rattle.pad_checkpoint.specs.Links.{names_of}
use Rattle.pad_checkpoint.specs.Settled.{IsRooted, IsSettled, KeepsLinks}
use Rattle.pad_checkpoint.proofs.CutLemmas.{higher_is, higher_none, higher_some}
use Rattle.pad_checkpoint.proofs.LinkLemmas.{top_names, chain_of, through_names}

-- nothing is dropped where the root stays
none_dropped : ChainsAreOne → (state : State) (base : Name) (links : List Link) (names : List Name) → Stands state base links names → IsNumberOf (IsDropped base links names names) 0
none_dropped one state base links names h = record { all = []; once = tt; these = λ x. (λ c. absurd (contains_none x c), λ p. absurd (both x p.1.0 p.1.1 p.1.2)); many = refl }
  where
    both : (x : Name) (height : ℕ) → IsKeptName base links names x height → IsGoneName base links names x height → ⊥
    both x height k g = g.4 (subst (GoesThrough names) (one base links k.0 g.0 h.differ k.1 g.1 (k.2 ∙ sym g.2)) k.4)

-- a path ends in the part up to its last checkpoint
ends : (p : List Message) → (w : List Message) × (p ≡ w ++ to_checkpoint p)
ends [] = ([], refl)
ends (m ∷ p) = go (is_checkpoint m.kind) (ends p)
  where
    go : (t : Bool) → (w : List Message) × (p ≡ w ++ to_checkpoint p) → (w : List Message) × (m ∷ p ≡ w ++ (if t then m ∷ p else to_checkpoint p))
    go true e = ([], refl)
    go false (w, e) = (m ∷ w, ap (λ q. m ∷ q) e)

ends_drop : (p : List Message) → (w : List Message) × (p ≡ w ++ drop 1 p)
ends_drop [] = ([], refl)
ends_drop (m ∷ p) = (m ∷ [], refl)

pub ends_cut : (p : List Message) → (w : List Message) × (p ≡ w ++ cut p)
ends_cut p = go (ends p) (ends_drop (to_checkpoint p)) (ends (drop 1 (to_checkpoint p)))
  where
    go : (w : List Message) × (p ≡ w ++ to_checkpoint p) → (w : List Message) × (to_checkpoint p ≡ w ++ drop 1 (to_checkpoint p)) → (w : List Message) × (drop 1 (to_checkpoint p) ≡ w ++ cut p) → (w : List Message) × (p ≡ w ++ cut p)
    go (u, e) (v, f) (w, g) = (u ++ (v ++ w), e ∙ ap (λ q. u ++ q) (f ∙ ap (λ q. v ++ q) g ∙ sym (append_assoc v w (cut p))) ∙ sym (append_assoc u (v ++ w) (cut p)))

module _ (b : Base) (R root above : List Message) (links : List Link) (place : Place) (marks : List PathMark) (state : State) (r : IsRooted b R root above links place marks state) where
  abbrev next : List Message
  next = higher root (cut (above ++ root))

  pub stays : ChainsAreOne → None ≡ last_but_one marks → IsSettled b links root next place state 0
  stays one none = subst (λ q. IsSettled b links root q place state 0) (sym (higher_none b root above (none ∙ ap last_but_one r.are_marks))) (record {
    at_root = r.at_root;
    stands = r.stands;
    count = none_dropped one state b.name links (names_of root) r.stands;
    lent = λ n. absurd (n refl);
  })

  next_linked : IsLinkedPath b R next
  next_linked = subst (IsLinkedPath b R) (sym (higher_is b root above)) (go (ends_cut above))
    where
      go : (w : List Message) × (above ≡ w ++ cut above) → IsLinkedPath b R (cut above ++ root)
      go (w, e) = linked_below b R w (cut above ++ root) (subst (IsLinkedPath b R) (ap (λ q. q ++ root) e ∙ append_assoc w (cut above) root) r.linked)

  module _ (mark : PathMark) (some : Some mark ≡ last_but_one marks) (new : State) (many : ℕ) where
    at_next : mark.place ≡ place_of b next
    at_next = higher_some b root above mark (some ∙ ap last_but_one r.are_marks)

    chain : IsChain b.name links (names_of next)
    chain = chain_of b R links r.links_of next next_linked

    is_top : top b.name (names_of next) ≡ mark.place.name
    is_top = top_names b next ∙ ap (λ (p : Place). p.name) (sym at_next)

    -- the graph knows the mark's message as linked through the root
    pub is_linked : ChainsAreOne → ((height : ℕ) → standing state mark.place.name ≡ Linked height → ⊥) → ⊥
    is_linked one none = go (standing state mark.place.name) refl (r.stands.standings mark.place.name)
      where
        not_new : (names : List Name) → IsChain b.name links names → top b.name names ≡ mark.place.name → IsNewName b.name links mark.place.name → ⊥
        not_new [] c e fresh = fresh.0 (sym e)
        not_new (name ∷ names) c e fresh = fresh.1 (record { name = name; parent = top b.name names }, c.0, e)

        go : (how : Standing) → standing state mark.place.name ≡ how → IsStanding b.name links (names_of root) mark.place.name how → ⊥
        go Unknown e fresh = not_new (names_of next) chain is_top fresh
        go Waiting e waits = waits.1 (length (names_of next)) (names_of next, chain, is_top, refl)
        go (Linked height) e kept = none height e
        go (Gone height) e (names, other, is, size, out) =
            out (subst (GoesThrough (names_of root)) (one b.name links (names_of next) names r.stands.differ chain other (is_top ∙ sym is)) (through_names root next (cut above, higher_is b root above)))

    pub moves : ((base : Name) (ls : List Link) (below names : List Name) → Stands state base ls below → IsChain base ls names → top base names ≡ mark.place.name → Stands new base ls names)
        → ((base : Name) (ls : List Link) (below names : List Name) → Stands state base ls below → IsChain base ls names → top base names ≡ mark.place.name → AreDropped base ls below names new.dropped)
        → ((base : Name) (ls : List Link) (below names : List Name) → Stands state base ls below → IsChain base ls names → top base names ≡ mark.place.name → IsNumberOf (IsDropped base ls below names) many)
        → IsSettled b links root next mark.place new many
    moves stands dropped count = record {
      at_root = at_next;
      stands = stands b.name links (names_of root) (names_of next) r.stands chain is_top;
      count = count b.name links (names_of root) (names_of next) r.stands chain is_top;
      lent = λ _. dropped b.name links (names_of root) (names_of next) r.stands chain is_top;
    }

-- what is not some is none
pub none_if : (o : Option PathMark) → ((mark : PathMark) → o ≡ Some mark → ⊥) → o ≡ None
none_if None h = refl
none_if (Some mark) h = absurd (h mark refl)

-- a graph that stays keeps its links
pub same_links : (old new : State) → new ≡ old → KeepsLinks old new
same_links old new same base links root h = (root, subst (λ (s : State). Stands s base links root) (sym same) h)

-- a graph whose root rises to a name that is linked through it keeps its links
pub risen_links : (name : Name) (old new : State) → IsHeld (standing old name)
    → ((base : Name) (ls : List Link) (below names : List Name) → Stands old base ls below → IsChain base ls names → top base names ≡ name → Stands new base ls names) → KeepsLinks old new
risen_links name old new held moves base links root h = go (standing old name) held (h.standings name)
  where
    go : (how : Standing) → IsHeld how → IsStanding base links root name how → (next : List Name) × Stands new base links next
    go Unknown held is = absurd held
    go Waiting held is = absurd held
    go (Linked height) held is = (is.0, moves base links root is.0 h is.1 is.2)
    go (Gone height) held is = absurd held
