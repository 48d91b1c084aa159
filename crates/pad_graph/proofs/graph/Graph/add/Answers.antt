use Rattle.std.proofs.Common.{◌≡◌, Some, None, sym, ap, ◌∙◌, subst}
use Rattle.std.specs.BTreeMap.{get}
use Rattle.pad_graph.specs.State.{state_of, name_cmp}
use Rattle.pad_graph.specs.Graph.{Stands}
use Rattle.pad_list.proofs.CallerLemmas.{contains_none}
use Rattle.pad_graph.proofs.Starting.{known_name, node_none}
use Rattle.pad_graph.proofs.Fields.{fresh_by, some_node, no_node}
use Rattle.pad_graph.proofs.graph.Graph.add.Goals as goal

pub returns-then-contains_key-clause-stands : goal.returns-then-contains_key-clause-stands
returns-then-contains_key-clause-stands c base links root h =
    let (node, is) = some_node (get name_cmp c.self.inside.nodes c.args.name) c.if-contains_key.ensures in
    (known_name (state_of c.args.self.now) base links root h c.args.name node (ap (λ t. (state_of t).node c.args.name) (sym c.self.view_is) ∙ is), h)

pub returns-then-contains_key-clause-room : goal.returns-then-contains_key-clause-room
returns-then-contains_key-clause-room c unknown full =
    let (node, is) = some_node (get name_cmp c.self.inside.nodes c.args.name) c.if-contains_key.ensures in
    let v = c.self.invariant in
    let now = subst (λ t. Stands (state_of t) v.base v.links v.root) c.self.view_is v.stands in
    let none = node_none (state_of c.args.self.now) v.base v.links v.root now c.args.name unknown in
    let both : Some node ≡ None = sym is ∙ ap (λ t. (state_of t).node c.args.name) c.self.view_is ∙ none in
    cc

pub returns-in_ok-found-in-Linked-clause-stands : goal.returns-in_ok-found-in-Linked-clause-stands
returns-in_ok-found-in-Linked-clause-stands c base links root h =
    let none = ap (λ t. (state_of t).node c.args.name) (sym c.self.view_is) ∙ no_node (get name_cmp c.self.inside.nodes c.args.name) c.if-contains_key.ensures in
    let (found, stands) = c.in_ok-found-in-Linked.ensures.ok base links root h in
    ((fresh_by (state_of c.args.self.now) base links root c.args.name h none, found, c.in_ok-found-in-Linked.ensures.sorted, c.in_ok-found-in-Linked.ensures.itself), stands)

pub returns-in_ok-found-in-Gone-clause-stands : goal.returns-in_ok-found-in-Gone-clause-stands
returns-in_ok-found-in-Gone-clause-stands c base links root h =
    let none = ap (λ t. (state_of t).node c.args.name) (sym c.self.view_is) ∙ no_node (get name_cmp c.self.inside.nodes c.args.name) c.if-contains_key.ensures in
    let (found, stands) = c.in_ok-found-in-Gone.ensures.ok base links root h in
    ((fresh_by (state_of c.args.self.now) base links root c.args.name h none, found, c.in_ok-found-in-Gone.ensures.sorted, c.in_ok-found-in-Gone.ensures.itself), stands)

pub returns-in_ok-wait-in_default-clause-stands : goal.returns-in_ok-wait-in_default-clause-stands
returns-in_ok-wait-in_default-clause-stands c base links root h =
    let none = ap (λ t. (state_of t).node c.args.name) (sym c.self.view_is) ∙ no_node (get name_cmp c.self.inside.nodes c.args.name) c.if-contains_key.ensures in
    let (found, stands) = c.in_ok-wait-in_default.ensures.ok base links root h in
    ((fresh_by (state_of c.args.self.now) base links root c.args.name h none, λ name height w. contains_none _ ((found.newly.these (record { height = height; name = name })).1 w)), stands)
