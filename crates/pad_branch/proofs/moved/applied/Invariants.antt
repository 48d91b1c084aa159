use Rattle.std.proofs.Common.{◌≡◌, map, take}
use Rattle.std.specs.BTreeMap.{get}
use Rattle.pad_graph.specs.State.{name_cmp}
use Rattle.pad_branch.specs.Undo.{undone_name}
use Rattle.pad_branch.specs.Held.{messages_at}
use Rattle.pad_branch.specs.Move.{move_on}
use Rattle.pad_branch.proofs.moved.applied.Given as goal

abbrev pub invariant-loop-undo : goal.invariant-loop-undo
invariant-loop-undo l = l.moves.items ≡ map move_on (messages_at (get name_cmp l.messages) (map undone_name (take l.undo-index l.undos)))
