-- Linked paths of messages, and chains of their names.
use Rattle.std.proofs.Common.{◌≡◌, ◌≢◌, ◌⊎◌, inl, inr, List, [], ◌∷◌, ◌++◌, Contains, refl, sym, ap, ap₂, ◌∙◌, subst}
use Rattle.std.proofs.lemmas.List.{map-append}
use Rattle.pad_text.specs.declared.name.Name.{Name}
use Rattle.pad_message.specs.declared.message.Message.{Message}
use Rattle.pad_message.specs.Message.{name_of}
use Rattle.pad_graph.specs.Chain.{Link, top, IsChain, GoesThrough}
use Rattle.pad_model.specs.declared.base.Base.{Base}
use Rattle.pad_model.specs.Path.{last_name, IsLinkedPath, NamesDiffer}
use Rattle.pad_model.specs.Choice.{RunsThrough}
use Rattle.pad_list.proofs.CallerLemmas.{contains_head, contains_more, contains_cases}
use Rattle.pad_model.proofs.CallerLemmas.{linked_unique, linked_below}
use Rattle.pad_checkpoint.specs.Links.{link_of, names_of, AreLinks}
use Rattle.pad_checkpoint.specs.Laws.{LinkedPathsAreChains}

pub top_names : (b : Base) (p : List Message) → top b.name (names_of p) ≡ last_name b p
top_names b [] = refl
top_names b (m ∷ p) = refl

-- the links of one message more
pub links_more : (b : Base) (R : List Message) (m : Message) (links : List Link) → AreLinks b R links → AreLinks b (m ∷ R) (link_of m ∷ links)
links_more b R m links a = record { each = λ l c. old l (contains_cases (link_of m) links l c); every = λ x c n. new x n (contains_cases m R x c) }
  where
    old : (l : Link) → (link_of m ≡ l) ⊎ Contains links l → (x : Message) × Contains (m ∷ R) x × (link_of x ≡ l)
    old l (inl e) = (m, contains_head m R, e)
    old l (inr c) = let x = a.each l c in (x.0, contains_more m R x.0 x.1, x.2)

    new : (x : Message) → name_of x ≢ b.name → (m ≡ x) ⊎ Contains R x → Contains (link_of m ∷ links) (link_of x)
    new x n (inl e) = subst (λ y. Contains (link_of m ∷ links) (link_of y)) e (contains_head (link_of m) links)
    new x n (inr c) = contains_more (link_of m) links (link_of x) (a.every x c n)

-- a message received again, and one with the base's name, leave the links
pub links_same : (b : Base) (R : List Message) (m : Message) (links : List Link) → AreLinks b R links → (name_of m ≡ b.name) ⊎ Contains R m → AreLinks b (m ∷ R) links
links_same b R m links a known = record { each = λ l c. let x = a.each l c in (x.0, contains_more m R x.0 x.1, x.2); every = λ x c n. go x n (contains_cases m R x c) known }
  where
    go : (x : Message) → name_of x ≢ b.name → (m ≡ x) ⊎ Contains R x → (name_of m ≡ b.name) ⊎ Contains R m → Contains links (link_of x)
    go x n (inr c) k = a.every x c n
    go x n (inl e) (inl k) = absurd (n (ap name_of (sym e) ∙ k))
    go x n (inl e) (inr k) = a.every x (subst (Contains R) e k) n

module _ (b : Base) (R : List Message) (links : List Link) (a : AreLinks b R links) where
  pub chain_of : (p : List Message) → IsLinkedPath b R p → IsChain b.name links (names_of p)
  chain_of [] h = tt
  chain_of (m ∷ p) h = (subst (Contains links) same (a.every m h.0.member h.0.not_base), h.0.not_base, chain_of p h.1)
    where
      same : link_of m ≡ record { name = name_of m; parent = top b.name (names_of p) }
      same = ap (λ n. record { name = name_of m; parent = n }) (h.0.parent ∙ sym (top_names b p))

  pub path_of : (names : List Name) → IsChain b.name links names → (p : List Message) × IsLinkedPath b R p × (names_of p ≡ names)
  path_of [] h = ([], tt, refl)
  path_of (n ∷ names) h = go (a.each (record { name = n; parent = top b.name names }) h.0) (path_of names h.2)
    where
      go : (m : Message) × Contains R m × (link_of m ≡ record { name = n; parent = top b.name names }) → (p : List Message) × IsLinkedPath b R p × (names_of p ≡ names) → (p : List Message) × IsLinkedPath b R p × (names_of p ≡ n ∷ names)
      go (m, member, e) (p, linked, same) = (
        m ∷ p,
        (
          record {
            member = member;
            not_base = λ k. h.1 (sym (ap (λ (l : Link). l.name) e) ∙ k);
            parent = ap (λ (l : Link). l.parent) e ∙ ap (top b.name) (sym same) ∙ top_names b p;
          },
          linked,
        ),
        ap₂ ◌∷◌ (ap (λ (l : Link). l.name) e) same,
      )

pub are_chains : LinkedPathsAreChains
are_chains b R links a = record { chain = chain_of b R links a; path = path_of b R links a }

-- ---- running through a root

pub through_names : (root p : List Message) → RunsThrough root p → GoesThrough (names_of root) (names_of p)
through_names root p (w, e) = (names_of w, ap names_of e ∙ map-append name_of w root)

split_names : (w v : List Name) (p : List Message) → names_of p ≡ w ++ v → (u : List Message) × (q : List Message) × (p ≡ u ++ q) × (names_of q ≡ v)
split_names [] v p e = ([], p, refl, e)
split_names (n ∷ w) v [] e = absurd (none n (w ++ v) e)
  where
    none : (n : Name) (ns : List Name) → [] ≡ n ∷ ns → ⊥
    none n ns e = cc
split_names (n ∷ w) v (m ∷ p) e = go (split_names w v p (rest (name_of m) n (names_of p) (w ++ v) e))
  where
    rest : (x y : Name) (s t : List Name) → x ∷ s ≡ y ∷ t → s ≡ t
    rest x y s t e = cc

    go : (u : List Message) × (q : List Message) × (p ≡ u ++ q) × (names_of q ≡ v) → (u : List Message) × (q : List Message) × (m ∷ p ≡ u ++ q) × (names_of q ≡ v)
    go (u, q, e, s) = (m ∷ u, q, ap (λ x. m ∷ x) e, s)

-- paths whose names run through the names of a root run through the root
pub through_paths : (b : Base) (R root p : List Message) → NamesDiffer R → IsLinkedPath b R root → IsLinkedPath b R p → GoesThrough (names_of root) (names_of p) → RunsThrough root p
through_paths b R root p d at_root linked (w, e) = go (split_names w (names_of root) p e)
  where
    go : (u : List Message) × (q : List Message) × (p ≡ u ++ q) × (names_of q ≡ names_of root) → RunsThrough root p
    go (u, q, whole, same) =
        let one = linked_unique b R q root d (linked_below b R u q (subst (IsLinkedPath b R) whole linked)) at_root (sym (top_names b q) ∙ ap (top b.name) same ∙ top_names b root) in
        (u, whole ∙ ap (λ x. u ++ x) one)
