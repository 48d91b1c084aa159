use Rattle.std.proofs.Common.{◌≡◌, Some, None, sym, ap, ◌∙◌}
use Rattle.std.specs.Option.{option_copied_mut}
use Rattle.std.specs.BTreeMap.{get}
use Rattle.pad_graph.proofs.Entries.{mark_wrote, mark_none}
use Rattle.pad_graph.proofs.tables.mark_one.Goals as goal
use Rattle.pad_graph.specs.State.{name_cmp, marked_as}

pub returns-in-Some : goal.returns-in-Some
returns-in-Some c q =
    let value : Some c.in-Some.node.now ≡ get name_cmp c.args.nodes.now c.args.linking.name = c.in-Some.ensures.value in
    rw c.standing_at-node.ensures (mark_wrote c.args.nodes.now (c.get_mut.follows.lender (record { parent = c.in-Some.node.now.parent; standing = marked_as c.args.mark c.args.linking.height })) c.args.linking.name c.in-Some.node.now (marked_as c.args.mark c.args.linking.height) (c.get_mut.follows.holds _) (sym value) q)

pub returns-in_default : goal.returns-in_default
returns-in_default c q =
    let none : get name_cmp c.args.nodes.now c.args.linking.name ≡ None = sym c.get_mut.ensures.value ∙ ap option_copied_mut c.in_default.is in
    mark_none c.args.nodes.now c.get_mut.follows.lender-at-none c.args.linking.name (marked_as c.args.mark c.args.linking.height) c.get_mut.follows.holds-at-none none q
