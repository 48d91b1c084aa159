-- So far the lines before the rest of the text are received.
use Rattle.std.proofs.Common.{length}
use Rattle.pad_top.proofs.Taking.{IsHere}
use Rattle.pad_top.proofs.replay.receive_lines.Given as goal

abbrev pub invariant-loop-line : goal.invariant-loop-line
invariant-loop-line g l = IsHere l.fn.text.items l.rest l.received

abbrev pub decreases-loop-line : goal.decreases-loop-line
decreases-loop-line g l = length l.rest
