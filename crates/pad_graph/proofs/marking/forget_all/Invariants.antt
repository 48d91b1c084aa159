use Rattle.std.proofs.Common.{◌≡◌, take, cond, []}
use Rattle.std.specs.BTreeMap.{get}
use Rattle.pad_text.specs.declared.name.Name.{Name}
use Rattle.pad_graph.specs.Inside.Tables.{names_in, is_among}
use Rattle.pad_graph.proofs.marking.forget_all.Given as goal
use Rattle.pad_graph.specs.State.{name_cmp}

abbrev pub invariant-loop-linking : goal.invariant-loop-linking
invariant-loop-linking l =
    (q : Name) → names_in (get name_cmp l.children q) ≡ cond (is_among (take l.linking-index l.linkings) q) [] (names_in (get name_cmp l.initial.children q))
