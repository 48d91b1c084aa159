-- So far the contents before the next one are received.
use Rattle.std.proofs.Common.{take}
use Rattle.pad_generate.specs.Inside.Receiving.{IsReceivedOf}
use Rattle.pad_generate.proofs.generating.receive_contents.Given as goal

abbrev pub invariant-loop-content : goal.invariant-loop-content
invariant-loop-content g l = IsReceivedOf (take l.content-index l.wires) l.received
