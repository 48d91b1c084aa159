-- none of the marks from this index on, up to the end, is a checkpoint's
use Rattle.std.proofs.Common.{◌≡◌, take}
use Rattle.pad_checkpoint.specs.Cut.{checkpoints}
use Rattle.pad_checkpoint.proofs.cuts.last_checkpoint.Given as goal

abbrev pub invariant-loop-at : goal.invariant-loop-at
invariant-loop-at l = checkpoints (take l.end l.marks) ≡ checkpoints (take l.at l.marks)
