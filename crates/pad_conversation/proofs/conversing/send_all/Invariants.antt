-- So far a front of the texts was sent.
use Rattle.std.proofs.Common.{◌≡◌, ◌++◌, take}
use Rattle.pad_conversation.proofs.conversing.send_all.Given as goal

abbrev pub invariant-loop-text : goal.invariant-loop-text
invariant-loop-text g l = let link = g.L.Link in record {
  sent : link.tells → link.sent l.link ≡ link.sent l.fn.link ++ take l.text-index l.texts;
  heard : link.tells → link.heard l.link ≡ link.heard l.fn.link;
  counts : (link.ends l.link ≡ link.ends l.fn.link) × (link.given l.link ≡ link.given l.fn.link);
  faults : link.faults l.link ≡ link.faults l.fn.link;
}
