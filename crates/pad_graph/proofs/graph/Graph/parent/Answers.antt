use Rattle.std.proofs.Common.{◌≡◌, Some, None, sym, ap, ◌∙◌, subst}
use Rattle.std.specs.BTreeMap.{get}
use Rattle.pad_graph.specs.State.{state_of, name_cmp}
use Rattle.pad_graph.specs.Graph.{IsParentOf}
use Rattle.pad_graph.proofs.Starting.{told_parent, no_parent}
use Rattle.pad_graph.proofs.graph.Graph.parent.Goals as goal

pub returns-in-Some : goal.returns-in-Some
returns-in-Some c base links root h =
    let value : Some c.in-Some.node.now ≡ get name_cmp c.self.inside.nodes c.args.name.now = c.in-Some.ensures.value in
    let node : (state_of c.args.self.now).node c.args.name.now ≡ Some c.in-Some.node.now = ap (λ t. (state_of t).node c.args.name.now) (sym c.self.view_is) ∙ sym value in
    subst (IsParentOf base links root c.args.name.now) (sym c.told_parent.ensures) (told_parent (state_of c.args.self.now) base links root h c.args.name.now c.in-Some.node.now node)

pub returns-in-None : goal.returns-in-None
returns-in-None c base links root h =
    let value : None ≡ get name_cmp c.self.inside.nodes c.args.name.now = c.in-None.ensures.value in
    let node : (state_of c.args.self.now).node c.args.name.now ≡ None = ap (λ t. (state_of t).node c.args.name.now) (sym c.self.view_is) ∙ sym value in
    no_parent (state_of c.args.self.now) base links root h c.args.name.now node
