-- As many messages overtake as linkings below the root better the best chain.
use Rattle.std.proofs.Common.{◌≡◌, ℕ, ◌<◌, ◌⊎◌, inl, inr, List, [], ◌∷◌, length, map, filter, count_by, Contains, Bool, true, false, cond, Ordering, Less, Equal, Greater, is_lt, nat_lt, ◌==◌, ◌&&◌, ◌||◌, refl, sym, ap, ◌∙◌, subst, true≢false}
use Rattle.std.proofs.lemmas.List.{length-map}
use Rattle.std.proofs.lemmas.List.Sums.{length-filter}
use Rattle.std.proofs.lemmas.Bool.{ltb-true, lt-ltb, eqb-true, eq-eqb}
use Rattle.pad_text.specs.declared.name.Name.{Name}
use Rattle.pad_text.specs.Name.{NameLess}
use Rattle.pad_message.specs.declared.message.Message.{Message}
use Rattle.pad_message.specs.Message.{name_of}
use Rattle.pad_graph.specs.declared.linking.Linking.{Linking}
use Rattle.pad_graph.specs.Chain.{Link, top, IsChain, GoesThrough, IsLinkedName, BecomesLinked}
use Rattle.pad_list.specs.Number.{NoRepeat as Apart}
use Rattle.pad_graph.specs.State.{name_cmp}
use Rattle.pad_model.specs.declared.base.Base.{Base}
use Rattle.pad_model.specs.Path.{last_name, IsLinkedPath, NamesDiffer}
use Rattle.pad_model.specs.Best.{IsBetter}
use Rattle.pad_list.specs.Number.{NoRepeat, IsNumberOf}
use Rattle.pad_model.specs.Choice.{Choice, Overtakes}
use Rattle.pad_list.proofs.CallerLemmas.{contains_head, contains_more, contains_cases, contains_none, number_by_key, contains_map, mapped_from}
use Rattle.pad_checkpoint.specs.declared.place.Place.{Place}
use Rattle.pad_checkpoint.specs.Place.{place_of}
use Rattle.pad_checkpoint.specs.Links.{link_of, names_of, AreLinks}
use Rattle.pad_checkpoint.specs.Below.{betters, AreBelow}
use Rattle.pad_checkpoint.proofs.LinkLemmas.{top_names, links_more, chain_of, path_of, through_names}

-- ---- what the test says

less_yes : (o : Ordering) → is_lt o ≡ true → o ≡ Less
less_yes Less e = refl
less_yes Equal e = absurd (true≢false (sym e))
less_yes Greater e = absurd (true≢false (sym e))

abbrev pub IsUp : Place → Linking → Type 0
IsUp best l = (best.height < l.height) ⊎ ((l.height ≡ best.height) × NameLess l.name best.name)

pub up_yes : (best : Place) (l : Linking) → betters best l ≡ true → IsUp best l
up_yes best l e = go (nat_lt best.height l.height) refl e
  where
    same : (t : Bool) → (l.height == best.height) ≡ t → (t && is_lt (name_cmp l.name best.name)) ≡ true → IsUp best l
    same true h less = inr (eqb-true l.height best.height h, less_yes (name_cmp l.name best.name) less)
    same false h less = absurd (true≢false (sym less))

    go : (t : Bool) → nat_lt best.height l.height ≡ t → (t || ((l.height == best.height) && is_lt (name_cmp l.name best.name))) ≡ true → IsUp best l
    go true h e = inl (ltb-true best.height l.height h)
    go false h e = same (l.height == best.height) refl e

or_right : (t : Bool) → (t || true) ≡ true
or_right true = refl
or_right false = refl

pub up_test : (best : Place) (l : Linking) → IsUp best l → betters best l ≡ true
up_test best l (inl h) = ap (λ t. t || ((l.height == best.height) && is_lt (name_cmp l.name best.name))) (lt-ltb best.height l.height h)
up_test best l (inr (e, less)) =
    ap (λ t. nat_lt best.height l.height || (t && is_lt (name_cmp l.name best.name))) (eq-eqb l.height best.height e)
    ∙ ap (λ o. nat_lt best.height l.height || is_lt o) less ∙ or_right (nat_lt best.height l.height)

-- ---- those that pass

passing_in : (t : Linking → Bool) (xs : List Linking) (x : Linking) → Contains (filter t xs) x → Contains xs x × (t x ≡ true)
passing_in t [] x c = absurd (contains_none x c)
passing_in t (y ∷ xs) x c = go (t y) refl c (passing_in t xs x)
  where
    go : (s : Bool) → t y ≡ s → Contains (cond s (y ∷ filter t xs) (filter t xs)) x → (Contains (filter t xs) x → Contains xs x × (t x ≡ true)) → Contains (y ∷ xs) x × (t x ≡ true)
    go false e c rest = let r = rest c in (contains_more y xs x r.0, r.1)
    go true e c rest = which (contains_cases y (filter t xs) x c)
      where
        which : (y ≡ x) ⊎ Contains (filter t xs) x → Contains (y ∷ xs) x × (t x ≡ true)
        which (inl same) = (subst (Contains (y ∷ xs)) same (contains_head y xs), ap t (sym same) ∙ e)
        which (inr k) = let r = rest k in (contains_more y xs x r.0, r.1)

in_passing : (t : Linking → Bool) (xs : List Linking) (x : Linking) → Contains xs x → t x ≡ true → Contains (filter t xs) x
in_passing t [] x c e = absurd (contains_none x c)
in_passing t (y ∷ xs) x c e = go (t y) refl (contains_cases y xs x c) (λ k. in_passing t xs x k e)
  where
    go : (s : Bool) → t y ≡ s → (y ≡ x) ⊎ Contains xs x → (Contains xs x → Contains (filter t xs) x) → Contains (cond s (y ∷ filter t xs) (filter t xs)) x
    go true h (inl same) rest = subst (Contains (y ∷ filter t xs)) same (contains_head y (filter t xs))
    go true h (inr k) rest = contains_more y (filter t xs) x (rest k)
    go false h (inl same) rest = absurd (true≢false (sym e ∙ ap t (sym same) ∙ h))
    go false h (inr k) rest = rest k

abbrev linking_names : List Linking → List Name
linking_names xs = map (λ (l : Linking). l.name) xs

apart_passing : (t : Linking → Bool) (xs : List Linking) → Apart (linking_names xs) → NoRepeat (linking_names (filter t xs))
apart_passing t [] h = tt
apart_passing t (y ∷ xs) h = go (t y) (apart_passing t xs h.1)
  where
    again : Contains (linking_names (filter t xs)) y.name → ⊥
    again c =
        let (x, member, e) = mapped_from (λ (l : Linking). l.name) (filter t xs) y.name c in
        h.0 (subst (Contains (linking_names xs)) e (contains_map (λ (l : Linking). l.name) xs x (passing_in t xs x member).0))

    go : (s : Bool) → NoRepeat (linking_names (filter t xs)) → NoRepeat (linking_names (cond s (y ∷ filter t xs) (filter t xs)))
    go true rest = (again, rest)
    go false rest = rest

-- ---- linkings and messages

module _ (b : Base) (R : List Message) (m : Message) (c : Choice) (links : List Link) (d : NamesDiffer (m ∷ R)) (a : AreLinks b R links) (below : List Linking) (told : AreBelow b links m c.root below) (best : Place) (at_best : best ≡ place_of b c.chosen) where
  after : AreLinks b (m ∷ R) (link_of m ∷ links)
  after = links_more b R m links a

  better_at : (x : Message) (p : List Message) (l : Linking) → name_of x ≡ l.name → l.height ≡ length (x ∷ p) → IsUp best l ≡ IsBetter b (x ∷ p) c.chosen
  better_at x p l n h = λ i. ((at_best i).height < h i) ⊎ ((h i ≡ (at_best i).height) × NameLess (sym n i) (at_best i).name)

  linked_name : (S : List Message) (ls : List Link) → AreLinks b S ls → (p : List Message) → IsLinkedPath b S p → IsLinkedName b.name ls (last_name b p) (length p)
  linked_name S ls e p h = (names_of p, chain_of b S ls e p h, top_names b p, sym (length-map p name_of))

  -- a linking that betters is of a message that overtakes
  forth : (l : Linking) → Contains below l → betters best l ≡ true → (x : Message) × Overtakes b R m c x × (name_of x ≡ l.name)
  forth l member better = go ((told.1.newly.these l).0 member) (told.1.stand l member)
    where
      make : (x : Message) (p : List Message) → IsLinkedPath b (m ∷ R) (x ∷ p) → name_of x ≡ l.name → l.height ≡ length (x ∷ p) → BecomesLinked b.name links (link_of m) l.name l.height → ¬ (GoesThrough (names_of c.root) (names_of (x ∷ p))) → (x : Message) × Overtakes b R m c x × (name_of x ≡ l.name)
      make x p h n e becomes out = (
        x,
        record {
          was_not_linked = λ was. becomes.before (length (x ∷ was.0)) (subst (λ k. IsLinkedName b.name links k (length (x ∷ was.0))) n (linked_name R links a (x ∷ was.0) was.1));
          before = p;
          below = (h, λ t. out (through_names c.root (x ∷ p) t));
          better = subst (λ A. A) (better_at x p l n e) (up_yes best l better);
        },
        n,
      )

      found : (ns : List Name) → ¬ (GoesThrough (names_of c.root) ns) → top b.name ns ≡ l.name → l.height ≡ length ns → BecomesLinked b.name links (link_of m) l.name l.height → (p : List Message) × IsLinkedPath b (m ∷ R) p × (names_of p ≡ ns) → (x : Message) × Overtakes b R m c x × (name_of x ≡ l.name)
      found ns out is size becomes ([], h, e) = absurd (becomes.before 0 ([], tt, ap (top b.name) e ∙ is, refl))
      found ns out is size becomes (x ∷ p, h, e) =
          make x p h (ap (top b.name) e ∙ is) (size ∙ ap length (sym e) ∙ length-map (x ∷ p) name_of) becomes (λ t. out (subst (GoesThrough (names_of c.root)) e t))

      go : BecomesLinked b.name links (link_of m) l.name l.height → (ns : List Name) × IsChain b.name (link_of m ∷ links) ns × (top b.name ns ≡ l.name) × (l.height ≡ length ns) × ¬ (GoesThrough (names_of c.root) ns) → (x : Message) × Overtakes b R m c x × (name_of x ≡ l.name)
      go becomes (ns, chain, is, size, out) = found ns out is size becomes (path_of b (m ∷ R) (link_of m ∷ links) after ns chain)

  -- and a message that overtakes has one
  back : (x : Message) → Overtakes b R m c x → (l : Linking) × Contains below l × (betters best l ≡ true) × (l.name ≡ name_of x)
  back x o = (
    record { height = length (x ∷ o.before); name = name_of x },
    (told.1.newly.these (record { height = length (x ∷ o.before); name = name_of x })).1 (record {
      now = linked_name (m ∷ R) (link_of m ∷ links) after (x ∷ o.before) o.below.0;
      before = λ any h. not_before any h;
    }),
    up_test best (record { height = length (x ∷ o.before); name = name_of x }) (subst (λ A. A) (sym (better_at x o.before (record { height = length (x ∷ o.before); name = name_of x }) refl refl)) o.better),
    refl,
  )
    where
      not_before : (any : ℕ) → ¬ (IsLinkedName b.name links (name_of x) any)
      not_before any (ns, chain, is, size) = go (path_of b R links a ns chain)
        where
          go : (p : List Message) × IsLinkedPath b R p × (names_of p ≡ ns) → ⊥
          go ([], h, e) = o.below.0.0.not_base (sym (ap (top b.name) e ∙ is))
          go (z ∷ p, h, e) =
              let same : z ≡ x = d z x (contains_more m R z h.0.member) o.below.0.0.member (ap (top b.name) e ∙ is) in
              o.was_not_linked (p, subst (λ w. IsLinkedPath b R (w ∷ p)) same h)

  pub overtook : IsNumberOf (Overtakes b R m c) (count_by (betters best) below)
  overtook = subst (IsNumberOf (Overtakes b R m c)) many
      (number_by_key name_of (Overtakes b R m c) (linking_names (filter (betters best) below)) (apart_passing (betters best) below told.1.newly.once) (λ x z o k e. d x z o.below.0.0.member k.below.0.0.member e) things key)
    where
      many : length (linking_names (filter (betters best) below)) ≡ count_by (betters best) below
      many = length-map (filter (betters best) below) (λ (l : Linking). l.name) ∙ length-filter (betters best) below

      things : (n : Name) → Contains (linking_names (filter (betters best) below)) n → (x : Message) × Overtakes b R m c x × (name_of x ≡ n)
      things n k =
          let (l, member, e) = mapped_from (λ (l : Linking). l.name) (filter (betters best) below) n k in
          let pass = passing_in (betters best) below l member in
          let x = forth l pass.0 pass.1 in
          (x.0, x.1, x.2 ∙ e)

      key : (x : Message) → Overtakes b R m c x → Contains (linking_names (filter (betters best) below)) (name_of x)
      key x o =
          let l = back x o in
          subst (Contains (linking_names (filter (betters best) below))) l.3 (contains_map (λ (y : Linking). y.name) (filter (betters best) below) l.0 (in_passing (betters best) below l.0 l.1 l.2))
