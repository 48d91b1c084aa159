-- Linked paths are no longer than the links are many.
use Rattle.std.proofs.Common.{◌≡◌, ◌≤◌, ◌⊎◌, inl, inr, List, [], ◌∷◌, ◌++◌, length, map, Contains, refl, ap, subst, arith, length-append}
use Rattle.std.proofs.lemmas.List.{length-map}
use Rattle.pad_text.specs.declared.name.Name.{Name}
use Rattle.pad_message.specs.declared.message.Message.{Message}
use Rattle.pad_message.specs.Message.{name_of}
use Rattle.pad_graph.specs.Chain.{Link}
use Rattle.pad_model.specs.declared.base.Base.{Base}
use Rattle.pad_model.specs.Path.{IsLinkedPath, NamesDiffer}
use Rattle.pad_list.specs.Number.{NoRepeat}
use Rattle.pad_list.proofs.CallerLemmas.{contains_cases, contains_none, distinct_short, contains_map, mapped_from}
use Rattle.pad_model.proofs.CallerLemmas.{linked_unique, linked_below}
use Rattle.pad_checkpoint.specs.Links.{link_of, names_of, AreLinks}
use Rattle.pad_chain.proofs.Coming.{on_path}

module _ (b : Base) (R : List Message) (d : NamesDiffer R) (links : List Link) (a : AreLinks b R links) where
  part : (x : Message) (p : List Message) → Contains p x → (u : List Message) × (v : List Message) × (p ≡ u ++ x ∷ v)
  part x [] c = absurd (contains_none x c)
  part x (y ∷ p) c = go (contains_cases y p x c) (part x p)
    where
      go : (y ≡ x) ⊎ Contains p x → (Contains p x → (u : List Message) × (v : List Message) × (p ≡ u ++ x ∷ v)) → (u : List Message) × (v : List Message) × (y ∷ p ≡ u ++ x ∷ v)
      go (inl e) rest = ([], p, ap (λ z. z ∷ p) e)
      go (inr k) rest = let r = rest k in (y ∷ r.0, r.1, ap (λ z. y ∷ z) r.2)

  names_once : (p : List Message) → IsLinkedPath b R p → NoRepeat (names_of p)
  names_once [] h = tt
  names_once (x ∷ p) h = (λ c. again (mapped_from name_of p (name_of x) c), names_once p h.1)
    where
      twice : (u : List Message) × (v : List Message) × (p ≡ u ++ x ∷ v) → ⊥
      twice (u, v, e) =
          let same : x ∷ p ≡ x ∷ v = linked_unique b R (x ∷ p) (x ∷ v) d h (linked_below b R u (x ∷ v) (subst (IsLinkedPath b R) e h.1)) refl in
          omega (arith, ap length same, ap length e, length-append u (x ∷ v))

      again : (y : Message) × Contains p y × (name_of y ≡ name_of x) → ⊥
      again (y, c, e) = twice (part x p (subst (Contains p) (d y x (on_path b R p y h.1 c) h.0.member e) c))

  named_in : (p : List Message) → IsLinkedPath b R p → (n : Name) → Contains (names_of p) n → Contains (map (λ (l : Link). l.name) links) n
  named_in [] h n c = absurd (contains_none n c)
  named_in (x ∷ p) h n c = go (contains_cases (name_of x) (names_of p) n c) (named_in p h.1 n)
    where
      go : (name_of x ≡ n) ⊎ Contains (names_of p) n → (Contains (names_of p) n → Contains (map (λ (l : Link). l.name) links) n) → Contains (map (λ (l : Link). l.name) links) n
      go (inl e) rest = subst (Contains (map (λ (l : Link). l.name) links)) e (contains_map (λ (l : Link). l.name) links (link_of x) (a.every x h.0.member h.0.not_base))
      go (inr k) rest = rest k

  pub short_path : (p : List Message) → IsLinkedPath b R p → length p ≤ length links
  short_path p h =
      omega (arith, distinct_short (names_of p) (map (λ (l : Link). l.name) links) (names_once p h) (named_in p h), length-map p name_of, length-map links (λ (l : Link). l.name))
