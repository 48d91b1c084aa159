-- A chain that holds the same, and whose graph stands for the same, stands for the same: a call that was refused, and a known name.
use Rattle.std.proofs.Common.{◌≡◌, List, sym, ◌∙◌, subst}
use Rattle.pad_text.specs.declared.name.Name.{Name}
use Rattle.pad_message.specs.declared.message.Message.{Message}
use Rattle.pad_message.specs.Message.{name_of}
use Rattle.pad_graph.specs.State as graph
use Rattle.pad_graph.specs.Graph.{Stands}
use Rattle.pad_model.specs.declared.base.Base.{Base}
use Rattle.pad_model.specs.Choice.{Choice}
use Rattle.pad_checkpoint.specs.Links.{names_of}
use Rattle.pad_branch.specs.Held.{mark_of, marks}
use Rattle.pad_branch.specs.Pathless.{KnowsPathless, AreFound}
use Rattle.pad_branch.specs.Branch.{IsTrunk}
use Rattle.pad_chain.specs.State.{View, held_of}
use Rattle.pad_chain.specs.Tie.{IsChosen, StandsFor}

module _ (chain new : View) (b : Base) (R : List Message) (choice : Choice) (s : StandsFor chain b R choice) (same : (q : Name) → held_of new q ≡ held_of chain q) where
  pub alike : Stands (graph.state_of new.graph) b.name s.links (names_of choice.root) → new.whole ≡ chain.whole → new.pruning ≡ chain.pruning → new.branch.branch ≡ chain.branch.branch → new.found ≡ chain.found → StandsFor new b R choice
  alike stands whole pruning branch found = record {
    chosen = subst (λ w. IsChosen w b R choice) (sym whole) s.chosen;
    links = s.links;
    are_links = s.are_links;
    stands = stands;
    at_root = (λ i. (pruning i).root) ∙ s.at_root;
    overtook = (λ i. (pruning i).overtaken) ∙ s.overtook;
    above = s.above;
    through = s.through;
    trunk = subst (IsTrunk b R choice.root s.above) (sym branch) s.trunk;
    holds = λ m p h t. let (held, at, is) = s.holds m p h t in (held, same (name_of m) ∙ at, is);
    waits = λ m w. let (held, at, is, free) = s.waits m w in (held, same (name_of m) ∙ at, is, free);
    only = λ q held at. s.only q held (sym (same q) ∙ at);
    knows = subst (KnowsPathless b R choice.root) (λ i q. mark_of (sym (same q) i)) s.knows;
    are_found = subst (λ f. AreFound b R choice.root f new.found) (λ i q. mark_of (sym (same q) i)) (subst (AreFound b R choice.root (marks (held_of chain))) (sym found) s.are_found);
  }
