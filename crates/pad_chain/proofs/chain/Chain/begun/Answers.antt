use Rattle.std.proofs.Common.{[], reverse, sym, ap, ◌∙◌, subst}
use Rattle.pad_text.specs.declared.name.Name.{Name}
use Rattle.pad_graph.specs.State as graph
use Rattle.pad_graph.specs.Graph.{Stands}
use Rattle.pad_chain.proofs.Begun.{begun_stands, none_held, same_branch}
use Rattle.pad_chain.proofs.Knowing.{knows_nothing}
use Rattle.pad_chain.proofs.chain.Chain.begun.Goals as goal

pub invariant_of-result : goal.invariant_of-result
invariant_of-result g c = none_held c.new-3.result c.new-3.ensures.empty

pub returns-clause-stands : goal.returns-clause-stands
returns-clause-stands g c b n t i =
    begun_stands (record { graph = c.in_ok-graph.graph; pruning = c.new-2.result; messages = c.new-3.result.entries; branch = c.in_ok-branch.branch; found = reverse c.new-4.result.items; whole = c.args.whole }) b c.new-3.ensures.empty
    (subst (λ m. Stands (graph.state_of c.in_ok-graph.graph) m [] []) (sym n) c.in_ok-graph.ensures)
    (c.new-2.ensures.root ∙ ap (λ (m : Name). record { name = m; height = 0 }) (sym n))
    c.new-2.ensures.overtaken
    (c.in_ok-branch.ensures ∙ same_branch b c.args.name (g.S.UnitStore.units c.args.text) c.args.interval n t i)
    (ap reverse c.new-4.ensures.items)

pub returns-clause-knows : goal.returns-clause-knows
returns-clause-knows g c b n =
    knows_nothing (record { graph = c.in_ok-graph.graph; pruning = c.new-2.result; messages = c.new-3.result.entries; branch = c.in_ok-branch.branch; found = reverse c.new-4.result.items; whole = c.args.whole }) b
    (subst (λ m. Stands (graph.state_of c.in_ok-graph.graph) m [] []) (sym n) c.in_ok-graph.ensures)
