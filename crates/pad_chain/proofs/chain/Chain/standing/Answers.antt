-- Which names are unknown.
use Rattle.std.proofs.Common.{◌≡◌, ◌≢◌, ◌↔◌, sym, ap, ◌∙◌, subst}
use Rattle.pad_graph.specs.declared.standing.Standing.{Standing}
use Rattle.pad_graph.specs.declared.standing.Standing.TheVariants.{Unknown}
use Rattle.pad_graph.specs.State as graph
use Rattle.pad_model.specs.Count.{IsKnown}
use Rattle.pad_chain.specs.State.{View}
use Rattle.pad_chain.proofs.Knowing.{unknown_is}
use Rattle.pad_chain.proofs.chain.Chain.standing.Goals as goal

pub returns-clause-knows : goal.returns-clause-knows
returns-clause-knows g c b R k =
    subst (λ (s : Standing). (s ≡ Unknown) ↔ ((c.args.name.now ≢ b.name) × ¬ (IsKnown b R c.args.name.now))) (sym (c.standing.ensures.is ∙ ap (λ (v : View). graph.standing (graph.state_of v.graph) c.args.name.now) c.self.view_is)) (unknown_is c.args.self.now b R k c.args.name.now)
