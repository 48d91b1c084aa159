-- The counts of a graph that stands for the links of messages are those of the messages.
use Rattle.std.proofs.Common.{◌≡◌, ◌≢◌, ℕ, ◌+◌, ◌-◌, ◌<◌, List, [], ◌∷◌, ◌++◌, length, map, Contains, refl, sym, ap, ◌∙◌, subst, arith, length-append}
use Rattle.std.proofs.lemmas.List.{length-map}
use Rattle.pad_text.specs.declared.name.Name.{Name}
use Rattle.pad_message.specs.declared.message.Message.{Message}
use Rattle.pad_message.specs.Message.{name_of}
use Rattle.pad_graph.specs.Chain.{Link, top, IsChain, GoesThrough, IsLinkedName, IsWaitingName}
use Rattle.pad_list.specs.Number.{NoRepeat as Once, IsNumberOf as IsCountOf}
use Rattle.pad_graph.specs.State.{State}
use Rattle.pad_graph.specs.Graph.{Stands, IsKept as IsKeptIn}
use Rattle.pad_model.specs.declared.base.Base.{Base}
use Rattle.pad_model.specs.Path.{last_name, IsLinkedPath, IsLinked, NamesDiffer}
use Rattle.pad_list.specs.Number.{NoRepeat, IsNumberOf}
use Rattle.pad_model.specs.Choice.{RunsThrough}
use Rattle.pad_model.specs.Count.{IsKnown, IsWaiting, IsKept}
use Rattle.pad_list.proofs.CallerLemmas.{number_by_key, number_listed, number_same, number_without, contains_map, mapped_from}
use Rattle.pad_model.proofs.CallerLemmas.{linked_unique}
use Rattle.pad_checkpoint.specs.Links.{link_of, names_of, AreLinks}
use Rattle.pad_checkpoint.proofs.CallerLemmas.{top_names, chain_of, path_of, through_names, through_paths}

same_once : {A : Type 0} (xs : List A) → Once xs → NoRepeat xs
same_once [] h = tt
same_once (x ∷ xs) h = (h.0, same_once xs h.1)

module _ (b : Base) (R : List Message) (links : List Link) (a : AreLinks b R links) (d : NamesDiffer R) (root : List Message) (at_root : IsLinkedPath b R root) (state : State) (s : Stands state b.name links (names_of root)) where
  linked_name : (p : List Message) → IsLinkedPath b R p → IsLinkedName b.name links (last_name b p) (length p)
  linked_name p h = (names_of p, chain_of b R links a p h, top_names b p, sym (length-map p name_of))

  -- the message of a link
  of_link : (l : Link) → Contains links l → (m : Message) × Contains R m × (name_of m ≡ l.name) × (name_of m ≢ b.name)
  of_link l c =
      let (m, member, e) = a.each l c in
      let named : name_of m ≡ l.name = ap (λ (k : Link). k.name) e in
      (m, member, named, λ k. s.not_base l c (sym named ∙ k))

  pub known_is : IsNumberOf (IsKnown b R) state.known
  known_is = subst (IsNumberOf (IsKnown b R)) (length-map links (λ (l : Link). l.name) ∙ sym s.known)
      (number_same (Contains names) (IsKnown b R) (length names) (λ n. (to n, from n)) (number_listed names (same_once names s.differ)))
    where
      names : List Name
      names = map (λ (l : Link). l.name) links

      to : (n : Name) → Contains (map (λ (l : Link). l.name) links) n → IsKnown b R n
      to n c =
          let (l, member, e) = mapped_from (λ (l : Link). l.name) links n c in
          let (m, received, named, apart) = of_link l member in
          (m, received, named ∙ e, λ k. apart (named ∙ e ∙ k))

      from : (n : Name) → IsKnown b R n → Contains (map (λ (l : Link). l.name) links) n
      from n (m, received, named, apart) = subst (Contains (map (λ (l : Link). l.name) links)) named (contains_map (λ (l : Link). l.name) links (link_of m) (a.every m received (λ k. apart (sym named ∙ k))))

  -- a message whose name is linked is linked
  is_linked : (x : Message) (any : ℕ) → Contains R x → name_of x ≢ b.name → IsLinkedName b.name links (name_of x) any → IsLinked b R x
  is_linked x any received apart (ns, chain, is, size) = go (path_of b R links a ns chain)
    where
      go : (p : List Message) × IsLinkedPath b R p × (names_of p ≡ ns) → IsLinked b R x
      go ([], h, e) = absurd (apart (sym (ap (top b.name) e ∙ is)))
      go (z ∷ p, h, e) =
          let same : z ≡ x = d z x h.0.member received (ap (top b.name) e ∙ is) in
          (p, subst (λ w. IsLinkedPath b R (w ∷ p)) same h)

  pub waiting_is : IsNumberOf (IsWaiting b R) state.waiting
  waiting_is = subst (IsNumberOf (IsWaiting b R)) (sym h.many) (number_by_key name_of (IsWaiting b R) h.all (same_once h.all h.once) (λ x z w v e. d x z w.0 v.0 e) things key)
    where
      h : IsCountOf (IsWaitingName b.name links) state.waiting
      h = s.waiting

      things : (n : Name) → Contains h.all n → (x : Message) × IsWaiting b R x × (name_of x ≡ n)
      things n c =
          let w : IsWaitingName b.name links n = (h.these n).0 c in
          let (m, received, named, apart) = of_link w.0.0 w.0.1 in
          (m, (received, apart, λ l. w.1 (length (m ∷ l.0)) (subst (λ k. IsLinkedName b.name links k (length (m ∷ l.0))) (named ∙ w.0.2) (linked_name (m ∷ l.0) l.1))), named ∙ w.0.2)

      key : (x : Message) → IsWaiting b R x → Contains h.all (name_of x)
      key x (received, apart, waits) = (h.these (name_of x)).1 ((link_of x, a.every x received apart, refl), λ any l. waits (is_linked x any received apart l))

  abbrev root_name : Name
  root_name = top b.name (names_of root)

  kept_h : IsCountOf (IsKeptIn b.name links (names_of root)) state.kept
  kept_h = s.kept

  root_kept : Contains kept_h.all root_name
  root_kept = (kept_h.these root_name).1 (length (names_of root), (names_of root, chain_of b R links a root at_root, refl, refl, ([], refl)))

  kept_without : IsNumberOf (λ n. Contains kept_h.all n × (n ≢ root_name)) (length kept_h.all - 1)
  kept_without = number_without kept_h.all root_name (same_once kept_h.all kept_h.once) root_kept

  no_root : (x : Message) (above : List Message) → [] ≡ above ++ (x ∷ []) → ⊥
  no_root x [] e = cc
  no_root x (y ∷ above) e = cc

  kept_thing : (n : Name) → n ≢ root_name → (height : ℕ) × ((ns : List Name) × IsChain b.name links ns × (top b.name ns ≡ n) × (height ≡ length ns) × GoesThrough (names_of root) ns) → (x : Message) × IsKept b R root x × (name_of x ≡ n)
  kept_thing n apart (height, (ns, chain, is, size, through)) = go (path_of b R links a ns chain)
    where
      ended : (u : List Message) (x : Message) (p : List Message) → x ∷ p ≡ u ++ root → name_of x ≡ n → RunsThrough root p
      ended [] x p e named = absurd (apart (sym named ∙ ap (last_name b) e ∙ sym (top_names b root)))
      ended (y ∷ u) x p e named = (u, rest x y p (u ++ root) e)
        where
          rest : (x y : Message) (s t : List Message) → x ∷ s ≡ y ∷ t → s ≡ t
          rest x y s t e = cc

      go : (p : List Message) × IsLinkedPath b R p × (names_of p ≡ ns) → (x : Message) × IsKept b R root x × (name_of x ≡ n)
      go ([], h, e) = absurd (apart (sym is ∙ sym (ap (top b.name) e) ∙ sym (ap (top b.name) (none through))))
        where
          none : GoesThrough (names_of root) ns → names_of root ≡ []
          none (w, f) = empty w (names_of root) (e ∙ f)
            where
              empty : (w v : List Name) → [] ≡ w ++ v → v ≡ []
              empty [] v g = sym g
              empty (y ∷ w) v g = cc
      go (x ∷ p, h, e) =
          let t = through_paths b R root (x ∷ p) d at_root h (subst (GoesThrough (names_of root)) (sym e) through) in
          let named : name_of x ≡ n = ap (top b.name) e ∙ is in
          (x, (p, h, ended t.0 x p t.1 named), named)

  kept_key : (x : Message) → IsKept b R root x → Contains kept_h.all (name_of x) × (name_of x ≢ root_name)
  kept_key x (p, h, (u, e)) = (
    (kept_h.these (name_of x)).1 (length (names_of (x ∷ p)), (names_of (x ∷ p), chain_of b R links a (x ∷ p) h, refl, refl, through_names root (x ∷ p) (x ∷ u, ap (λ q. x ∷ q) e))),
    λ same.
        let one : x ∷ p ≡ root = linked_unique b R (x ∷ p) root d h at_root (same ∙ top_names b root) in
        omega (arith, ap length one, ap length e, length-append u root),
  )

  pub kept_is : (above : ℕ) × IsNumberOf (IsKept b R root) above × (state.kept ≡ above + 1)
  kept_is = (
    length w.all,
    number_by_key name_of (IsKept b R root) w.all w.once (λ x z k l f. d x z k.1.0.member l.1.0.member f) (λ n c. let q = (w.these n).0 c in kept_thing n q.1 ((kept_h.these n).0 q.0)) (λ x k. (w.these (name_of x)).1 (kept_key x k)),
    omega (arith, w.many, kept_h.many, some),
  )
    where
      w : IsNumberOf (λ n. Contains kept_h.all n × (n ≢ root_name)) (length kept_h.all - 1)
      w = kept_without

      some : 0 < length kept_h.all
      some = omega (arith, root_kept.1)
