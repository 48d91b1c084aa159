-- the marks so far
use Rattle.std.proofs.Common.{◌≡◌}
use Rattle.pad_stroke.specs.Mark.{marks_of}
use Rattle.pad_stroke.proofs.editing.marks_typed.Given as goal

abbrev pub invariant-loop-index : goal.invariant-loop-index
invariant-loop-index l = l.marks.items ≡ marks_of l.stroke l.index
