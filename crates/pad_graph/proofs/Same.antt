-- Two graphs that stand for the same links and root.
use Rattle.std.proofs.Common.{◌≡◌, ℕ, List, ◌⊎◌, inl, inr, length, refl, sym, ap, ◌∙◌, subst}
use Rattle.pad_text.specs.declared.name.Name.{Name}
use Rattle.pad_graph.specs.declared.standing.Standing.{Standing}
use Rattle.pad_graph.specs.declared.standing.Standing.TheVariants.{Unknown, Waiting, Linked, Gone}
use Rattle.pad_graph.specs.Chain.{Link, IsChain, GoesThrough, IsLinkedName, IsKeptName, IsGoneName, IsWaitingName}
use Rattle.pad_graph.specs.State.{standing}
use Rattle.pad_graph.specs.Graph.{LinksDiffer, IsStanding, IsKept}
use Rattle.pad_graph.specs.Laws.{GraphsTellTheSame, NewChainsHaveTheLink, HasLink}
use Rattle.pad_list.proofs.CallerLemmas.{one_number}
use Rattle.pad_graph.proofs.Chains.{chain_unique, OnChain, chain_new, through_down, through_up}
use Rattle.pad_graph.proofs.Growth.{new_not_linked}

module _ (base : Name) (links : List Link) (root : List Name) (d : LinksDiffer links) (name : Name) where
  one_chain : (a b : ℕ) → (k : IsLinkedName base links name a) (g : IsLinkedName base links name b) → k.0 ≡ g.0
  one_chain a b (c, chain, e, q) (c2, two, e2, q2) = chain_unique base links c c2 d chain two (e ∙ sym e2)

  abbrev linked_by : (a : ℕ) → IsKeptName base links root name a → IsLinkedName base links name a
  linked_by a (c, chain, e, q, t) = (c, chain, e, q)

  abbrev gone_by : (a : ℕ) → IsGoneName base links root name a → IsLinkedName base links name a
  gone_by a (c, chain, e, q, t) = (c, chain, e, q)

  not_both : (a b : ℕ) → IsKeptName base links root name a → ¬ (IsGoneName base links root name b)
  not_both a b k g = g.4 (subst (GoesThrough root) (one_chain a b (linked_by a k) (gone_by b g)) k.4)

  pub same_standing : (s t : Standing) → IsStanding base links root name s → IsStanding base links root name t → s ≡ t
  same_standing Unknown Unknown h g = refl
  same_standing Unknown Waiting h g = absurd (h.1 g.0)
  same_standing Unknown (Linked b) h g = absurd (new_not_linked base links name h b (linked_by b g))
  same_standing Unknown (Gone b) h g = absurd (new_not_linked base links name h b (gone_by b g))
  same_standing Waiting Unknown h g = absurd (g.1 h.0)
  same_standing Waiting Waiting h g = refl
  same_standing Waiting (Linked b) h g = absurd (h.1 b (linked_by b g))
  same_standing Waiting (Gone b) h g = absurd (h.1 b (gone_by b g))
  same_standing (Linked a) Unknown h g = absurd (new_not_linked base links name g a (linked_by a h))
  same_standing (Linked a) Waiting h g = absurd (g.1 a (linked_by a h))
  same_standing (Linked a) (Linked b) h g = ap Linked (h.3 ∙ ap length (one_chain a b (linked_by a h) (linked_by b g)) ∙ sym g.3)
  same_standing (Linked a) (Gone b) h g = absurd (not_both a b h g)
  same_standing (Gone a) Unknown h g = absurd (new_not_linked base links name g a (gone_by a h))
  same_standing (Gone a) Waiting h g = absurd (g.1 a (gone_by a h))
  same_standing (Gone a) (Linked b) h g = absurd (not_both b a g h)
  same_standing (Gone a) (Gone b) h g = ap Gone (h.3 ∙ ap length (one_chain a b (gone_by a h) (gone_by b g)) ∙ sym g.3)

pub tell_the_same : GraphsTellTheSame
tell_the_same one other base links root h g = record {
  standings = λ name. same_standing base links root h.differ name (standing one name) (standing other name) (h.standings name) (g.standings name);
  root = h.at_root ∙ sym g.at_root;
  known = h.known ∙ sym g.known;
  waiting = one_number (IsWaitingName base links) one.waiting other.waiting h.waiting g.waiting;
  kept = one_number (IsKept base links root) one.kept other.kept h.kept g.kept;
}

pub new_chains : NewChainsHaveTheLink
new_chains base links link root names rooted new chain = go (chain_new base links link names chain)
  where
    go : IsChain base links names ⊎ OnChain base links link names → IsChain base links names ⊎ HasLink base links link root names
    go (inl old) = inl old
    go (inr o) = inr (record {
      above = o.above;
      below = o.below;
      whole = o.whole;
      parent = o.parent;
      chain = o.chain;
      through = (through_down base links link root names rooted new.1 o, through_up base links link root names rooted new.1 o);
    })
