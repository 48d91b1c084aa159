use Rattle.std.proofs.Common.{◌≡◌, Some, None, sym, ap, ◌∙◌, subst}
use Rattle.std.specs.BTreeMap.{get}
use Rattle.pad_graph.specs.State.{state_of, standing_of, name_cmp}
use Rattle.pad_graph.specs.Graph.{IsStanding}
use Rattle.pad_graph.proofs.graph.Graph.standing.Goals as goal

pub returns-in-Some-clause-stands : goal.returns-in-Some-clause-stands
returns-in-Some-clause-stands c base links root h =
    let value : Some c.in-Some.node.now ≡ get name_cmp c.self.inside.nodes c.args.name.now = c.in-Some.ensures.value in
    let node : (state_of c.args.self.now).node c.args.name.now ≡ Some c.in-Some.node.now = ap (λ t. (state_of t).node c.args.name.now) (sym c.self.view_is) ∙ sym value in
    subst (IsStanding base links root c.args.name.now) (ap standing_of node) (h.standings c.args.name.now)

pub returns-in-None-clause-stands : goal.returns-in-None-clause-stands
returns-in-None-clause-stands c base links root h =
    let value : None ≡ get name_cmp c.self.inside.nodes c.args.name.now = c.in-None.ensures.value in
    let node : (state_of c.args.self.now).node c.args.name.now ≡ None = ap (λ t. (state_of t).node c.args.name.now) (sym c.self.view_is) ∙ sym value in
    subst (IsStanding base links root c.args.name.now) (ap standing_of node) (h.standings c.args.name.now)
