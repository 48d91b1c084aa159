use Rattle.std.proofs.Common.{◌≡◌, List, [], ◌∷◌, ◌++◌, Some, None, sym, ap, ◌∙◌}
use Rattle.std.specs.Option.{option_copied_mut}
use Rattle.std.specs.BTreeMap.{get}
use Rattle.pad_text.specs.declared.name.Name.{Name}
use Rattle.pad_graph.proofs.Entries.{child_wrote, same_wrote, child_put}
use Rattle.pad_graph.proofs.tables.add_child.Goals as goal
use Rattle.pad_graph.specs.State.{name_cmp}

pub returns-in-Ok-clause-ok : goal.returns-in-Ok-clause-ok
returns-in-Ok-clause-ok c =
    let value : Some c.in-Some.names.now ≡ get name_cmp c.args.children.now c.args.parent = c.in-Some.ensures.value in
    child_wrote c.args.children.now (c.get_mut.follows.lender c.push.new.self) c.args.parent c.args.name c.push.new.self c.in-Some.names.now (c.get_mut.follows.holds _) (sym value) c.in-Ok.ensures.items

pub returns-in-Err-clause-err : goal.returns-in-Err-clause-err
returns-in-Err-clause-err c =
    let value : Some c.in-Some.names.now ≡ get name_cmp c.args.children.now c.args.parent = c.in-Some.ensures.value in
    same_wrote c.args.children.now (c.get_mut.follows.lender c.push.new.self) c.args.parent c.args.name c.push.new.self c.in-Some.names.now (c.get_mut.follows.holds _) (sym value) c.in-Err.ensures.items

pub returns-in-Ok-insert-clause-ok : goal.returns-in-Ok-insert-clause-ok
returns-in-Ok-insert-clause-ok c =
    let none : get name_cmp c.args.children.now c.args.parent ≡ None = sym c.get_mut.ensures.value ∙ ap option_copied_mut c.in_default.is in
    let one = c.in_ok-push.ensures.items ∙ ap (λ (ns : List Name). ns ++ c.args.name ∷ []) c.in_ok-names.ensures.items in
    child_put c.args.children.now c.insert.new.self c.args.parent c.args.name c.push-2.new.self (rw c.get_mut.follows.holds-at-none at c.in-Ok-insert.ensures.updates) one none
