use Rattle.std.proofs.Common.{◌≡◌, take}
use Rattle.std.specs.BTreeMap.{get}
use Rattle.pad_text.specs.declared.name.Name.{Name}
use Rattle.pad_graph.specs.Inside.Tables.{marked}
use Rattle.pad_graph.proofs.marking.mark_all.Given as goal
use Rattle.pad_graph.specs.State.{name_cmp}

abbrev pub invariant-loop-linking : goal.invariant-loop-linking
invariant-loop-linking l = (q : Name) → get name_cmp l.nodes q ≡ marked l.mark (get name_cmp l.initial.nodes) (take l.linking-index l.linkings) q
