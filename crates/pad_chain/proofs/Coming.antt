-- What becomes linked as a message comes whose name is new.
use Rattle.std.proofs.Common.{◌≡◌, ℕ, ◌⊎◌, inl, inr, List, [], ◌∷◌, length, Contains, refl, sym, ap, ◌∙◌, subst}
use Rattle.std.proofs.lemmas.List.{length-map}
use Rattle.std.proofs.lemmas.List.Elements.{Contains-append_right}
use Rattle.pad_text.specs.declared.name.Name.{Name}
use Rattle.pad_message.specs.declared.message.Message.{Message}
use Rattle.pad_message.specs.Message.{name_of}
use Rattle.pad_graph.specs.Chain.{Link, top, IsLinkedName, BecomesLinked}
use Rattle.pad_graph.specs.Graph.{IsNewName}
use Rattle.pad_model.specs.declared.base.Base.{Base}
use Rattle.pad_model.specs.Path.{last_name, IsLinkedPath, NamesDiffer}
use Rattle.pad_list.proofs.CallerLemmas.{contains_head, contains_more, contains_cases, contains_none}
use Rattle.pad_model.proofs.CallerLemmas.{linked_more, linked_unique}
use Rattle.pad_checkpoint.specs.Links.{link_of, names_of, AreLinks}
use Rattle.pad_checkpoint.proofs.CallerLemmas.{top_names, links_more, chain_of, path_of}
-- a path with a message on it, and what is new with that message
pub use Rattle.pad_branch.proofs.CallerLemmas.{Passes, linked_new}

pub on_path : (b : Base) (R p : List Message) (x : Message) → IsLinkedPath b R p → Contains p x → Contains R x
on_path b R [] x h c = absurd (contains_none x c)
on_path b R (y ∷ p) x h c = go (contains_cases y p x c) (on_path b R p x h.1)
  where
    go : (y ≡ x) ⊎ Contains p x → (Contains p x → Contains R x) → Contains R x
    go (inl e) rest = subst (Contains R) e h.0.member
    go (inr k) rest = rest k

pub more_path : (b : Base) (R : List Message) (m : Message) (p : List Message) → IsLinkedPath b R p → IsLinkedPath b (m ∷ R) p
more_path b R m p h = linked_more b R (m ∷ R) p (contains_more m R) h

module _ (b : Base) (R : List Message) (links : List Link) (a : AreLinks b R links) where
  pub linked_name : (p : List Message) → IsLinkedPath b R p → IsLinkedName b.name links (last_name b p) (length p)
  linked_name p h = (names_of p, chain_of b R links a p h, top_names b p, sym (length-map p name_of))

  -- the path of a linked name
  pub path_named : (n : Name) (height : ℕ) → IsLinkedName b.name links n height → (p : List Message) × IsLinkedPath b R p × (last_name b p ≡ n) × (height ≡ length p)
  path_named n height (ns, chain, is, size) = go (path_of b R links a ns chain)
    where
      go : (p : List Message) × IsLinkedPath b R p × (names_of p ≡ ns) → (p : List Message) × IsLinkedPath b R p × (last_name b p ≡ n) × (height ≡ length p)
      go (p, h, e) = (p, h, sym (top_names b p) ∙ ap (top b.name) e ∙ is, size ∙ ap length (sym e) ∙ length-map p name_of)

module _ (b : Base) (R : List Message) (m : Message) (links : List Link) (a : AreLinks b R links) (d : NamesDiffer (m ∷ R)) (new : IsNewName b.name links (name_of m)) where
  pub after : AreLinks b (m ∷ R) (link_of m ∷ links)
  after = links_more b R m links a

  -- no message received before has the name
  pub not_named : (x : Message) → Contains R x → name_of x ≡ name_of m → ⊥
  not_named x c e = new.1 (link_of x, a.every x c (λ k. new.0 (sym e ∙ k)), e)

  pub not_in : ¬ (Contains R m)
  not_in c = not_named m c refl

  pub not_on : (p : List Message) → IsLinkedPath b R p → Passes m p → ⊥
  not_on p h k = not_in (on_path b R p m h (subst (λ q. Contains q m) (sym k.whole) (Contains-append_right k.above (m ∷ k.under) m (contains_head m k.under))))

  -- a path with the message on it is new
  pub passing_becomes : (p : List Message) → IsLinkedPath b (m ∷ R) p → Passes m p → BecomesLinked b.name links (link_of m) (last_name b p) (length p)
  passing_becomes p h k = record { now = linked_name b (m ∷ R) (link_of m ∷ links) after p h; before = λ any l. before (path_named b R links a (last_name b p) any l) }
    where
      before : {any : ℕ} → (q : List Message) × IsLinkedPath b R q × (last_name b q ≡ last_name b p) × (any ≡ length q) → ⊥
      before (q, g, e, size) =
          let same : q ≡ p = linked_unique b (m ∷ R) q p d (more_path b R m q g) h e in
          not_on p (subst (IsLinkedPath b R) same g) k

  -- and what is new is such a path
  pub becomes_passing : (n : Name) (height : ℕ) → BecomesLinked b.name links (link_of m) n height → (p : List Message) × IsLinkedPath b (m ∷ R) p × (last_name b p ≡ n) × (height ≡ length p) × Passes m p
  becomes_passing n height becomes = go (path_named b (m ∷ R) (link_of m ∷ links) after n height becomes.now)
    where
      go : (p : List Message) × IsLinkedPath b (m ∷ R) p × (last_name b p ≡ n) × (height ≡ length p) → (p : List Message) × IsLinkedPath b (m ∷ R) p × (last_name b p ≡ n) × (height ≡ length p) × Passes m p
      go (p, h, e, size) = which (linked_new b R m p h)
        where
          which : IsLinkedPath b R p ⊎ Passes m p → (p : List Message) × IsLinkedPath b (m ∷ R) p × (last_name b p ≡ n) × (height ≡ length p) × Passes m p
          which (inl old) = absurd (becomes.before (length p) (subst (λ k. IsLinkedName b.name links k (length p)) e (linked_name b R links a p old)))
          which (inr k) = (p, h, e, size, k)

  -- where nothing becomes linked, the linked paths are the same
  pub same_paths : ((n : Name) (height : ℕ) → ¬ (BecomesLinked b.name links (link_of m) n height)) → (p : List Message) → IsLinkedPath b (m ∷ R) p → IsLinkedPath b R p
  same_paths none p h = go (linked_new b R m p h)
    where
      go : IsLinkedPath b R p ⊎ Passes m p → IsLinkedPath b R p
      go (inl old) = old
      go (inr k) = absurd (none (last_name b p) (length p) (passing_becomes p h k))
