use Rattle.std.proofs.Common.{◌≡◌, Some, None, sym, ap, ◌∙◌}
use Rattle.std.specs.Option.{option_copied_mut}
use Rattle.std.specs.BTreeMap.{get}
use Rattle.pad_graph.specs.Inside.Tables.{names_in}
use Rattle.pad_graph.proofs.Entries.{child_lost, lost_none, popped}
use Rattle.pad_graph.proofs.tables.remove_child.Goals as goal
use Rattle.pad_graph.specs.State.{name_cmp}

pub returns-in-Some : goal.returns-in-Some
returns-in-Some c before name whole =
    let value : Some c.in-Some.names.now ≡ get name_cmp c.args.children.now c.args.parent.now = c.in-Some.ensures.value in
    let less = popped c.in-Some.names.now c.pop.new.self before name c.pop.result (ap names_in value ∙ whole) c.pop.ensures.items c.pop.ensures.variant.1 in
    child_lost c.args.children.now (c.get_mut.follows.lender c.pop.new.self) c.args.parent.now name c.pop.new.self c.in-Some.names.now before (c.get_mut.follows.holds _) (sym value) less whole

pub returns-in_default : goal.returns-in_default
returns-in_default c before name whole =
    let none : get name_cmp c.args.children.now c.args.parent.now ≡ None = sym c.get_mut.ensures.value ∙ ap option_copied_mut c.in_default.is in
    lost_none c.args.children.now c.get_mut.follows.lender-at-none c.args.parent.now name before none whole
