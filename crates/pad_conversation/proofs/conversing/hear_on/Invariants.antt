-- So far texts were heard, and what is to be read of them written.
use Rattle.std.proofs.Common.{◌≡◌, ◌++◌, ◌-◌, ◌^◌, List, ℕ}
use Rattle.pad_conversation.specs.Ends.{IsRun}
use Rattle.pad_conversation.specs.Told.{Told, told}
use Rattle.pad_conversation.proofs.conversing.hear_on.Given as goal

abbrev pub invariant-loop-alloc : goal.invariant-loop-alloc
invariant-loop-alloc g l = let link = g.L.Link in let sink = g.O.Sink in let speaker = g.M.Speaker in record {
  lasts : (rest : List g.row.C.Denot) → speaker.lasts l.fn.speaker rest → speaker.lasts l.speaker rest;
  run : (first : speaker.State) (commands done rest : List g.row.C.Denot) (before : Told) → commands ≡ done ++ rest
      → IsRun speaker.machine (speaker.stands l.fn.speaker) first commands done link.tells before (told (link.heard l.fn.link) (link.sent l.fn.link) (sink.written l.fn.output))
      → IsRun speaker.machine (speaker.stands l.speaker) first commands done link.tells before (told (link.heard l.link) (link.sent l.link) (sink.written l.output));
  counts : (link.faults l.link ≡ link.faults l.fn.link) × (link.ends l.link ≡ link.ends l.fn.link) × (sink.faults l.output ≡ sink.faults l.fn.output);
}

abbrev pub decreases-loop-alloc : goal.decreases-loop-alloc
decreases-loop-alloc g l = 2 ^ 64 - 1 - g.L.Link.given l.link
