use Rattle.std.proofs.Common.{◌≡◌, Some, None, sym, ap, ◌∙◌}
use Rattle.std.specs.Option.{option_copied_mut}
use Rattle.std.specs.BTreeMap.{get}
use Rattle.pad_graph.specs.State.{name_cmp}
use Rattle.pad_chain.specs.Inside.Tables.{with_mark}
use Rattle.pad_chain.proofs.Entries.{mark_wrote, mark_none}
use Rattle.pad_chain.proofs.tables.mark.Goals as goal

pub returns-in-Some : goal.returns-in-Some
returns-in-Some c =
    let value : Some c.in-Some.held.now ≡ get name_cmp c.args.messages.now c.args.name = c.in-Some.ensures.value in
    mark_wrote c.args.messages.now (c.get_mut.follows.lender (with_mark c.in-Some.held.now)) c.args.name c.in-Some.held.now (c.get_mut.follows.holds _) (sym value)

pub returns-in_default : goal.returns-in_default
returns-in_default c =
    let none : get name_cmp c.args.messages.now c.args.name ≡ None = sym c.get_mut.ensures.value ∙ ap option_copied_mut c.in_default.is in
    mark_none c.args.messages.now c.get_mut.follows.lender-at-none c.args.name c.get_mut.follows.holds-at-none none
