use Rattle.std.proofs.Common.{take}
use Rattle.std.specs.BTreeMap.{get}
use Rattle.pad_graph.specs.State.{name_cmp, state_of}
use Rattle.pad_branch.specs.Inside.Passing.{MarksChildren}
use Rattle.pad_branch.proofs.passing.next_level.Given as goal

abbrev pub invariant-loop-parent : goal.invariant-loop-parent
invariant-loop-parent l = MarksChildren (get name_cmp l.messages) (state_of l.graph).children (take l.parent-index l.over) l.fn.pathless l.level.pathless l.level.names.items
