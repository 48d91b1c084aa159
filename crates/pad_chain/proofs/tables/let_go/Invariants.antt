-- those so far were let go
use Rattle.std.proofs.Common.{take}
use Rattle.std.specs.BTreeMap.{get}
use Rattle.pad_graph.specs.State.{name_cmp}
use Rattle.pad_chain.specs.Inside.Tables.{AreLetGo}
use Rattle.pad_chain.proofs.tables.let_go.Given as goal

abbrev pub invariant-loop-linking : goal.invariant-loop-linking
invariant-loop-linking l = AreLetGo (get name_cmp l.initial.messages) (get name_cmp l.messages) (take l.linking-index l.linkings)
