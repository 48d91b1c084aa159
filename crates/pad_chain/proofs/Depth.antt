-- The branch, and what becomes linked, end no higher than the longest linked path.
use Rattle.std.proofs.Common.{◌≡◌, ℕ, ◌+◌, ◌≤◌, ◌⊎◌, inl, inr, List, ◌∷◌, ◌++◌, length, reverse, All, Contains, refl, sym, ap, ◌∙◌, arith, length-append}
use Rattle.std.proofs.lemmas.List.{length-reverse}
use Rattle.pad_message.specs.declared.message.Message.{Message}
use Rattle.pad_message.specs.Message.{name_of}
use Rattle.pad_graph.specs.declared.linking.Linking.{Linking}
use Rattle.pad_graph.specs.declared.added.Added.TheVariants.{Linked}
use Rattle.pad_graph.specs.Added.{IsAdded}
use Rattle.pad_graph.specs.Chain.{Link}
use Rattle.pad_graph.specs.Graph.{IsNewName}
use Rattle.pad_list.proofs.CallerLemmas.{contains_cases}
use Rattle.pad_model.specs.declared.base.Base.{Base}
use Rattle.pad_model.specs.Path.{NamesDiffer}
use Rattle.pad_model.specs.Choice.{Choice}
use Rattle.pad_checkpoint.specs.Links.{link_of, names_of, AreLinks}
use Rattle.pad_chain.specs.State.{View}
use Rattle.pad_chain.specs.Tie.{StandsFor}
use Rattle.pad_chain.specs.Receive.{IsWithin}
use Rattle.pad_chain.proofs.Ends.{many_undos}
use Rattle.pad_chain.proofs.Coming.{more_path}
use Rattle.pad_chain.proofs.Joining.{join_each}

-- a message whose name is new has no other's name
differ_more : (b : Base) (R : List Message) (m : Message) (links : List Link) → AreLinks b R links → IsNewName b.name links (name_of m) → NamesDiffer R → NamesDiffer (m ∷ R)
differ_more b R m links a new differ one other c d same = go (contains_cases m R one c) (contains_cases m R other d)
  where
    not_named : (x : Message) → Contains R x → name_of x ≡ name_of m → ⊥
    not_named x k e = new.1 (link_of x, a.every x k (λ base. new.0 (sym e ∙ base)), e)

    go : (m ≡ one) ⊎ Contains R one → (m ≡ other) ⊎ Contains R other → one ≡ other
    go (inl e) (inl f) = sym e ∙ f
    go (inl e) (inr k) = absurd (not_named other k (sym same ∙ ap name_of (sym e)))
    go (inr k) (inl f) = absurd (not_named one k (same ∙ ap name_of (sym f)))
    go (inr k) (inr l) = differ one other k l same

module _ (b : Base) (R : List Message) (m : Message) (choice : Choice) (chain : View) (s : StandsFor chain b R choice) (depth : ℕ) (within : IsWithin b (m ∷ R) choice.root depth) where
  pub branch_within : length chain.branch.branch.undos ≤ depth
  branch_within =
      omega (arith, within (s.above ++ choice.root) (more_path b R m (s.above ++ choice.root) s.trunk.linked) (s.above, refl), length-append s.above choice.root, many_undos b choice.root s.above (reverse chain.branch.branch.undos) s.trunk.undone, length-reverse chain.branch.branch.undos)

  pub linkings_within : (linkings : List Linking) → IsAdded b.name s.links (names_of choice.root) (link_of m) (Linked linkings) → All (λ (linking : Linking). linking.height ≤ chain.branch.branch.low + depth) linkings
  linkings_within linkings told k e inside =
      let end = join_each b R m choice chain s (differ_more b R m s.links s.are_links told.0 s.trunk.differ) linkings told k e inside in
      omega (arith, end.high, within (end.last ∷ end.rest ++ choice.root) end.linked (end.last ∷ end.rest, refl), s.trunk.height)
