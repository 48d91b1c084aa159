-- none of those so far takes back a checkpoint
use Rattle.std.proofs.Common.{reverse, take}
use Rattle.pad_chain.specs.Inside.Marks.{NoneIsCheckpoint}
use Rattle.pad_chain.proofs.settling.no_checkpoint.Given as goal

abbrev pub invariant-loop-undo : goal.invariant-loop-undo
invariant-loop-undo l = NoneIsCheckpoint (reverse (take l.undo-index l.undos))
