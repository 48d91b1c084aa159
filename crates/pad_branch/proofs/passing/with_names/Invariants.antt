use Rattle.std.proofs.Common.{take}
use Rattle.std.specs.BTreeMap.{get}
use Rattle.pad_graph.specs.State.{name_cmp}
use Rattle.pad_branch.specs.Inside.Passing.{MarksNames}
use Rattle.pad_branch.proofs.passing.with_names.Given as goal

abbrev pub invariant-loop-child : goal.invariant-loop-child
invariant-loop-child l = MarksNames (get name_cmp l.messages) (take l.child-index l.names) l.initial.pathless l.initial.next.items l.pathless l.next.items
