-- The branch after its root rose, or stayed.
use Rattle.std.proofs.Common.{◌≡◌, ◌≢◌, List, [], ◌∷◌, ◌++◌, true, Option, refl, sym, ap, ◌∙◌, subst, append_assoc}
use Rattle.pad_text.specs.declared.name.Name.{Name}
use Rattle.pad_message.specs.declared.message.Message.{Message}
use Rattle.pad_message.specs.Message.{name_of}
use Rattle.pad_graph.specs.Chain.{Link}
use Rattle.pad_graph.specs.State as graph
use Rattle.pad_model.specs.declared.base.Base.{Base}
use Rattle.pad_model.specs.Path.{IsLinkedPath, EachSound}
use Rattle.pad_model.specs.Choice.{RunsThrough}
use Rattle.pad_checkpoint.specs.declared.place.Place.{Place}
use Rattle.pad_branch.specs.declared.held.Held.{Held}
use Rattle.pad_branch.specs.Held.{mark_of, marks}
use Rattle.pad_branch.specs.Pathless.{KnowsPathless, AreFound}
use Rattle.pad_branch.specs.Branch.{State, IsTrunk}
use Rattle.pad_branch.specs.Laws.{KnownAbove, FoundAbove}
use Rattle.pad_chain.specs.Inside.Tables.{IsSame, AreLetGo}
use Rattle.pad_chain.specs.Inside.Receiving.{IsRaised}
use Rattle.pad_chain.proofs.Keeping.{Keeps}
use Rattle.pad_chain.proofs.Raising.{mark_before, kept_at, rises}

not_empty : (x : Message) (xs : List Message) → x ∷ xs ≡ [] → ⊥
not_empty x xs e = cc

module _ (b : Base) (R root path upper : List Message) (links : List Link) (state : graph.State) (place : Place) (branch : State) (table : Name → Option Held) (found : List Name) (k : Keeps state place branch table found b R root path links) (new : graph.State) (to : Place) (risen : State) (after : Name → Option Held) where
  stay_keeps : IsRaised b links root [] to new → IsTrunk b R root upper risen → IsSame table after → Keeps new to risen after found b R root upper links
  stay_keeps raised trunk same = record {
    are_links = k.are_links;
    stands = raised.stands;
    at_root = raised.at_root;
    trunk = trunk;
    holds = λ x p h t. let (held, at, is) = k.holds x p h t in (held, same (name_of x) ∙ at, is);
    waits = λ x w. let (held, at, is, free) = k.waits x w in (held, same (name_of x) ∙ at, is, free);
    only = λ q held at. k.only q held (sym (same q) ∙ at);
    knows = subst (KnowsPathless b R root) (λ i q. mark_of (sym (same q) i)) k.knows;
    are = subst (λ f. AreFound b R root f found) (λ i q. mark_of (sym (same q) i)) k.are;
  }

  sound_split : (joined : List Message) → path ≡ upper ++ joined → EachSound b (path ++ root) → EachSound b (upper ++ (joined ++ root))
  sound_split joined split sound = subst (EachSound b) (ap (λ q. q ++ root) split ∙ append_assoc upper joined root) sound

  pub risen_keeps : KnownAbove → FoundAbove → (joined : List Message) → path ≡ upper ++ joined → IsRaised b links root joined to new → IsTrunk b R (joined ++ root) upper risen → (joined ≡ [] → IsSame table after) → (joined ≢ [] → AreLetGo table after new.dropped) → EachSound b (path ++ root)
      → Keeps new to risen after found b R (joined ++ root) upper links
  risen_keeps known_above found_above [] split raised trunk same gone sound = stay_keeps raised trunk (same refl)
  risen_keeps known_above found_above (x ∷ joined) split raised trunk same gone sound =
      rises b R root path upper (x ∷ joined) links state place branch table found k split new raised.stands new.dropped (raised.lent (not_empty x joined)) after (gone (not_empty x joined))
      known_above found_above (sound_split (x ∷ joined) split sound) to raised.at_root risen trunk

  -- what is marked was marked
  pub risen_sub : (joined : List Message) → path ≡ upper ++ joined → IsRaised b links root joined to new → (joined ≡ [] → IsSame table after) → (joined ≢ [] → AreLetGo table after new.dropped) → (q : Name) → marks after q ≡ true → marks table q ≡ true
  risen_sub [] split raised same gone q e = sym (ap mark_of (same refl q)) ∙ e
  risen_sub (x ∷ joined) split raised same gone q e =
      mark_before b R root path upper (x ∷ joined) links state place branch table found k split new raised.stands new.dropped (raised.lent (not_empty x joined)) after (gone (not_empty x joined)) q e

  -- and what is kept keeps its mark
  pub risen_same : (joined : List Message) → path ≡ upper ++ joined → IsRaised b links root joined to new → (joined ≡ [] → IsSame table after) → (joined ≢ [] → AreLetGo table after new.dropped) → (x : Message) (p : List Message) → IsLinkedPath b R (x ∷ p) → RunsThrough (joined ++ root) p → marks table (name_of x) ≡ true → marks after (name_of x) ≡ true
  risen_same [] split raised same gone x p h t e = ap mark_of (same refl (name_of x)) ∙ e
  risen_same (y ∷ joined) split raised same gone x p h t e =
      ap mark_of (kept_at b R root path upper (y ∷ joined) links state place branch table found k split new raised.stands new.dropped (raised.lent (not_empty y joined)) after (gone (not_empty y joined)) x p h t) ∙ e
