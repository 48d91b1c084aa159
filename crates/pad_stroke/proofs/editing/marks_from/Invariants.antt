-- the marks so far
use Rattle.std.proofs.Common.{◌≡◌, map, take}
use Rattle.pad_stroke.specs.InTurn.{mark_from}
use Rattle.pad_stroke.proofs.editing.marks_from.Given as goal

abbrev pub invariant-loop-origin : goal.invariant-loop-origin
invariant-loop-origin l = l.marks.items ≡ map (mark_from l.first l.second) (take l.origin-index l.from)
