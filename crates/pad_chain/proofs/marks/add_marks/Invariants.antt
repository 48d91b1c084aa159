-- the marks of those so far were added
use Rattle.std.proofs.Common.{◌≡◌, ◌+◌, ◌++◌, take}
use Rattle.pad_chain.specs.Inside.Marks.{marks_from}
use Rattle.pad_chain.proofs.marks.add_marks.Given as goal

abbrev pub invariant-loop-undo : goal.invariant-loop-undo
invariant-loop-undo l = record {
  high : l.height ≡ l.low + l.undo-index;
  marks : l.marks.items ≡ l.initial.marks.items ++ marks_from l.low (take l.undo-index l.undos);
}
