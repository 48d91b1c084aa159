-- So far the commands from the front were done, and the speaker waits for nothing.
use Rattle.std.proofs.Common.{◌≡◌, take, drop, false}
use Rattle.pad_conversation.specs.Ends.{IsRun}
use Rattle.pad_conversation.specs.Told.{told}
use Rattle.pad_conversation.proofs.conversing.converse.Given as goal

abbrev pub invariant-loop-command : goal.invariant-loop-command
invariant-loop-command g l = let link = g.L.Link in let sink = g.O.Sink in let speaker = g.M.Speaker in record {
  lasts : speaker.lasts l.speaker (drop l.command-index l.commands);
  run : (first : speaker.State) → speaker.stands l.fn.speaker first → speaker.machine.waits first ≡ false
      → IsRun speaker.machine (λ state. speaker.stands l.speaker state × (speaker.machine.waits state ≡ false)) first l.commands (take l.command-index l.commands) link.tells
      (told (link.heard l.fn.link) (link.sent l.fn.link) (sink.written l.fn.output)) (told (link.heard l.link) (link.sent l.link) (sink.written l.output));
  counts : (link.faults l.link ≡ link.faults l.fn.link) × (link.ends l.link ≡ link.ends l.fn.link) × (sink.faults l.output ≡ sink.faults l.fn.output);
}
