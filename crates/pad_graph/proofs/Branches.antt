-- Branches of children are chains, and what hangs on a new name is what becomes linked.
use Rattle.std.proofs.Common.{◌≡◌, ◌≢◌, ℕ, ◌+◌, ◌⊎◌, inl, inr, List, [], ◌∷◌, ◌++◌, length, map, Contains, refl, sym, ap, ◌∙◌, subst, arith, length-append}
use Rattle.std.proofs.lemmas.List.{length-map}
use Rattle.pad_text.specs.declared.name.Name.{Name}
use Rattle.pad_graph.specs.declared.linking.Linking.{Linking}
use Rattle.pad_graph.specs.declared.node.Mark.{Mark}
use Rattle.pad_graph.specs.declared.node.Mark.TheVariants as mark
use Rattle.pad_graph.specs.Chain.{Link, top, IsChain, GoesThrough, IsLinkedName, IsKeptName, IsGoneName, BecomesLinked}
use Rattle.pad_graph.specs.State.{State, standing}
use Rattle.pad_graph.specs.Graph.{LinksDiffer, IsNewName, IsStanding, AreNewlyLinked, AreFound, Stands}
use Rattle.pad_graph.specs.Inside.Hanging.{IsBranch, IsForest, Hangs, AreHanging}
use Rattle.pad_list.proofs.CallerLemmas.{contains_head, contains_more, contains_cases}
use Rattle.pad_graph.proofs.Chains.{link_name, named, added_in, one_parent, chain_unique, chain_more, OnChain, chain_new, through_down, through_up}
use Rattle.pad_graph.specs.Inside.Marks.{IsUnder}

pub top_over : (base first : Name) (names low : List Name) → top base low ≡ first → top base (names ++ low) ≡ top first names
top_over base first [] low e = e
top_over base first (n ∷ names) low e = refl

module _ (state : State) (base : Name) (links : List Link) (root : List Name) (h : Stands state base links root) where
  -- a branch on top of a chain is a chain
  pub branch_chain : (first stop : Name) (names low : List Name) (any : List Link) → ((l : Link) → Contains links l → Contains any l) → IsBranch state.children first stop names → IsChain base any low → top base low ≡ first → IsChain base any (names ++ low)
  branch_chain first stop [] low any more b c e = c
  branch_chain first stop (n ∷ names) low any more (k, a, b) c e =
      let link : Contains links (record { name = n; parent = top first names }) = h.children.only (top first names) n k in (
        subst (λ p. Contains any (record { name = n; parent = p })) (sym (top_over base first names low e)) (more (record { name = n; parent = top first names }) link),
        h.not_base (record { name = n; parent = top first names }) link,
        branch_chain first stop names low any more b c e,
      )

  module _ (name parent : Name) (new : IsNewName base links name) where
    abbrev pub link : Link
    link = record { name = name; parent = parent }

    pub differs : LinksDiffer (link ∷ links)
    differs = (λ c. new.1 (added_in links name c), h.differ)

    -- nothing that hangs on a new name was linked
    pub not_linked : (stop : Name) (names : List Name) → IsBranch state.children name stop names → (height : ℕ) → ¬ (IsLinkedName base links (top name names) height)
    not_linked stop [] b height ([], chain, e, q) = new.0 (sym e)
    not_linked stop [] b height (m ∷ c, chain, e, q) = new.1 (record { name = m; parent = top base c }, chain.0, e)
    not_linked stop (n ∷ names) (k, a, b) height ([], chain, e, q) = h.not_base (record { name = n; parent = top name names }) (h.children.only (top name names) n k) (sym e)
    not_linked stop (n ∷ names) (k, a, b) height (m ∷ c, chain, e, q) =
        let same = one_parent links n (top base c) (top name names) h.differ (subst (λ x. Contains links (record { name = x; parent = top base c })) e chain.0) (h.children.only (top name names) n k) in
        not_linked stop names b (length c) (c, chain.2, same, refl)

    pub forest : IsForest state.children name name (name ∷ map link_name links) (state.known + 1)
    forest = record {
      once = h.children.once;
      one_parent = λ p q n c k. one_parent links n p q h.differ (h.children.only p n c) (h.children.only q n k);
      lowest = λ names b c. new.1 (record { name = name; parent = top name names }, h.children.only (top name names) name c, refl);
      among = among;
      few = omega (arith, h.known, length-map links link_name);
    }
      where
        among : (names : List Name) → IsBranch state.children name name names → Contains (name ∷ map link_name links) (top name names)
        among [] b = contains_head name (map link_name links)
        among (n ∷ names) (k, a, b) = contains_more name (map link_name links) n (named links (record { name = n; parent = top name names }) (h.children.only (top name names) n k))

    module _ (below : List Name) (chain : IsChain base links below) (at : top base below ≡ parent) where
      pub low : IsChain base (link ∷ links) (name ∷ below)
      low = (subst (λ p. Contains (link ∷ links) (record { name = name; parent = p })) (sym at) (contains_head link links), new.0, chain_more base link links below chain)

      -- a chain with the new name on it is a branch from there on
      pub chain_branch : (above : List Name) → IsChain base (link ∷ links) (above ++ name ∷ below) → IsBranch state.children name name above
      chain_branch [] c = tt
      chain_branch (n ∷ above) c =
          let rest = chain_branch above c.2 in
          (h.children.every (top name above) n (in_links (contains_cases link links (record { name = n; parent = top base (above ++ name ∷ below) }) c.0)) (λ height gone. not_linked name above rest height (gone.0, gone.1, gone.2, gone.3)), apart, rest)
        where
          apart : n ≢ name
          apart e =
              let same = chain_unique base (link ∷ links) (n ∷ (above ++ name ∷ below)) (name ∷ below) differs c low e in
              omega (arith, ap length same, length-append above (name ∷ below))

          in_links : (link ≡ record { name = n; parent = top base (above ++ name ∷ below) }) ⊎ Contains links (record { name = n; parent = top base (above ++ name ∷ below) }) → Contains links (record { name = n; parent = top name above })
          in_links (inl e) = absurd (apart (ap link_name (sym e)))
          in_links (inr k) = subst (λ p. Contains links (record { name = n; parent = p })) (top_over base name above (name ∷ below) refl) k

      module _ (found : List Linking) (first : Linking) (is : first ≡ record { height = length below + 1; name = name }) (f : AreHanging state.children first name found) where
        first_name : first.name ≡ name
        first_name = ap (λ (l : Linking). l.name) is

        first_high : first.height ≡ length below + 1
        first_high = ap (λ (l : Linking). l.height) is

        hangs : (l : Linking) → Contains found l → (names : List Name) × IsBranch state.children name name names × (top name names ≡ l.name) × (l.height ≡ length below + 1 + length names)
        hangs l c = subst (λ (z : Linking). Hangs state.children z name l) is (f.each l c)

        every : (names : List Name) → IsBranch state.children name name names → Contains found (record { height = length below + 1 + length names; name = top name names })
        every = (subst (λ (z : Linking). AreHanging state.children z name found) is f).every

        chain_of : (names : List Name) → IsBranch state.children name name names → IsChain base (link ∷ links) (names ++ name ∷ below)
        chain_of names b = branch_chain name name names (name ∷ below) (link ∷ links) (λ l c. contains_more link links l c) b low refl

        abbrev pub on : (names : List Name) → OnChain base links link (names ++ name ∷ below)
        on names = record { above = names; below = below; whole = refl; parent = at; chain = chain }

        pub newly : AreNewlyLinked base links link found
        newly = record { once = f.once; these = λ l. (to l, from l) }
          where
            to : (l : Linking) → Contains found l → BecomesLinked base links link l.name l.height
            to l c =
                let (names, b, e, q) = hangs l c in
                record {
                  now = (names ++ name ∷ below, chain_of names b, top_over base name names (name ∷ below) refl ∙ e, omega (arith, q, length-append names (name ∷ below)));
                  before = λ any k. not_linked name names b any (subst (λ n. IsLinkedName base links n any) (sym e) k);
                }

            from : (l : Linking) → BecomesLinked base links link l.name l.height → Contains found l
            from l w = go (chain_new base links link w.now.0 w.now.1)
              where
                go : IsChain base links w.now.0 ⊎ OnChain base links link w.now.0 → Contains found l
                go (inl old) = absurd (w.before l.height (w.now.0, old, w.now.2, w.now.3))
                go (inr o) =
                    let same : o.below ≡ below = chain_unique base links o.below below h.differ o.chain chain (o.parent ∙ sym at) in
                    let whole : w.now.0 ≡ o.above ++ name ∷ below = o.whole ∙ ap (λ x. o.above ++ name ∷ x) same in
                    let b = chain_branch o.above (subst (IsChain base (link ∷ links)) whole w.now.1) in
                    let high : length below + 1 + length o.above ≡ l.height = omega (arith, w.now.3, ap length whole, length-append o.above (name ∷ below)) in
                    let last : top name o.above ≡ l.name = sym (top_over base name o.above (name ∷ below) refl) ∙ ap (top base) (sym whole) ∙ w.now.2 in
                    subst (Contains found) (λ i. record { height = high i; name = last i }) (every o.above b)

        kept : GoesThrough root below → (l : Linking) → Contains found l → IsKeptName base (link ∷ links) root l.name l.height
        kept t l c =
            let (names, b, e, q) = hangs l c in
            (names ++ name ∷ below, chain_of names b, top_over base name names (name ∷ below) refl ∙ e, omega (arith, q, length-append names (name ∷ below)), through_up base links link root (names ++ name ∷ below) h.rooted new.1 (on names) t)

        gone : ¬ (GoesThrough root below) → (l : Linking) → Contains found l → IsGoneName base (link ∷ links) root l.name l.height
        gone t l c =
            let (names, b, e, q) = hangs l c in
            (names ++ name ∷ below, chain_of names b, top_over base name names (name ∷ below) refl ∙ e, omega (arith, q, length-append names (name ∷ below)), λ through. t (through_down base links link root (names ++ name ∷ below) h.rooted new.1 (on names) through))

    -- what hangs on the new name is what becomes linked, and stands as its parent does
    pub found_on : (mark : Mark) (height : ℕ) (found : List Linking) → IsUnder mark height (standing state parent) → AreHanging state.children (record { height = height + 1; name = name }) name found → AreFound base links root link mark found
    found_on mark.Waiting height found under f = absurd under
    found_on mark.Linked height found under f =
        let (below, chain, at, high, through) = subst (IsStanding base links root parent) under (h.standings parent) in
        let is = ap (λ n. record { height = n + 1; name = name }) high in
        record { newly = newly below chain at found (record { height = height + 1; name = name }) is f; stand = kept below chain at found (record { height = height + 1; name = name }) is f through }
    found_on mark.Gone height found under f =
        let (below, chain, at, high, through) = subst (IsStanding base links root parent) under (h.standings parent) in
        let is = ap (λ n. record { height = n + 1; name = name }) high in
        record { newly = newly below chain at found (record { height = height + 1; name = name }) is f; stand = gone below chain at found (record { height = height + 1; name = name }) is f through }
