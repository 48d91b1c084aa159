-- those so far are marked
use Rattle.std.proofs.Common.{take}
use Rattle.std.specs.BTreeMap.{get}
use Rattle.pad_graph.specs.State.{name_cmp}
use Rattle.pad_chain.specs.Inside.Tables.{AreMarked}
use Rattle.pad_chain.proofs.tables.mark_all.Given as goal

abbrev pub invariant-loop-linking : goal.invariant-loop-linking
invariant-loop-linking l = AreMarked (get name_cmp l.initial.messages) (get name_cmp l.messages) (take l.linking-index l.linkings)
