-- A new message that is held: what the table has then.
use Rattle.std.proofs.Common.{◌≡◌, ◌⊎◌, inl, inr, List, ◌∷◌, Bool, true, false, cond, Option, Some, None, is_eq, refl, sym, ap, ◌∙◌, subst}
use Rattle.pad_text.specs.declared.name.Name.{Name}
use Rattle.pad_message.specs.declared.message.Message.{Message}
use Rattle.pad_message.specs.Message.{name_of}
use Rattle.pad_graph.specs.State as graph
use Rattle.pad_graph.specs.Graph.{IsNewName}
use Rattle.pad_model.specs.declared.base.Base.{Base}
use Rattle.pad_model.specs.Path.{NamesDiffer}
use Rattle.pad_model.specs.Choice.{Choice}
use Rattle.pad_model.specs.Count.{IsWaiting}
use Rattle.pad_branch.specs.declared.held.Held.{Held}
use Rattle.pad_branch.specs.Held.{mark_of, marks}
use Rattle.pad_chain.specs.State.{View, held_of}
use Rattle.pad_chain.specs.Tie.{IsKeptMessage, StandsFor}
use Rattle.pad_chain.specs.Inside.Tables.{IsPut}
use Rattle.pad_chain.proofs.Names.{name_same, name_equal}
use Rattle.pad_chain.proofs.Coming.{not_named}

module _ (b : Base) (R : List Message) (m : Message) (choice : Choice) (chain : View) (s : StandsFor chain b R choice) (d : NamesDiffer (m ∷ R)) (fresh : IsNewName b.name s.links (name_of m)) where
  -- nothing is held at its name
  pub not_held : (held : Held) → held_of chain (name_of m) ≡ Some held → ⊥
  not_held held at = go (s.only (name_of m) held at)
    where
      go : (name_of held.message ≡ name_of m) × (IsKeptMessage b R choice.root held.message ⊎ IsWaiting b R held.message) → ⊥
      go (e, inl k) = not_named b R m s.links s.are_links d fresh held.message k.1.0.member e
      go (e, inr w) = not_named b R m s.links s.are_links d fresh held.message w.0 e

  pub held_none : held_of chain (name_of m) ≡ None
  held_none = go (held_of chain (name_of m)) refl
    where
      go : (o : Option Held) → held_of chain (name_of m) ≡ o → held_of chain (name_of m) ≡ None
      go None e = e
      go (Some held) e = absurd (not_held held e)

  module _ (new : View) (put : IsPut (held_of chain) (held_of new) (name_of m) (Some (record { message = m; pathless = false }))) where
    pub put_keeps : (q : Name) (held : Held) → held_of chain q ≡ Some held → held_of new q ≡ Some held
    put_keeps q held at = put q ∙ go (is_eq (graph.name_cmp (name_of m) q)) refl
      where
        go : (t : Bool) → is_eq (graph.name_cmp (name_of m) q) ≡ t → cond t (Some (record { message = m; pathless = false })) (held_of chain q) ≡ Some held
        go true e = absurd (not_held held (subst (λ n. held_of chain n ≡ Some held) (sym (name_same (name_of m) q e)) at))
        go false e = at

    pub put_itself : held_of new (name_of m) ≡ Some (record { message = m; pathless = false })
    put_itself = put (name_of m) ∙ ap (λ t. cond t (Some (record { message = m; pathless = false })) (held_of chain (name_of m))) (name_equal (name_of m) (name_of m) refl)

    pub put_marks : (q : Name) → marks (held_of chain) q ≡ marks (held_of new) q
    put_marks q = sym (ap mark_of (put q) ∙ go (is_eq (graph.name_cmp (name_of m) q)) refl)
      where
        go : (t : Bool) → is_eq (graph.name_cmp (name_of m) q) ≡ t → mark_of (cond t (Some (record { message = m; pathless = false })) (held_of chain q)) ≡ mark_of (held_of chain q)
        go true e = sym (ap mark_of (subst (λ n. held_of chain n ≡ None) (name_same (name_of m) q e) held_none))
        go false e = refl
