use Rattle.std.proofs.Common.{◌+◌, ◌<◌, ◌^◌, length}
use Rattle.pad_plain.proofs.Candidates.{Sorting}
use Rattle.pad_plain.proofs.links.linked_paths.Given as goal

abbrev pub invariant-loop-name : goal.invariant-loop-name
invariant-loop-name l = record {
  sorting : Sorting l.base l.received l.name-iterator l.candidates.items l.waiting;
  few : l.waiting + length l.name-iterator < 2 ^ 63;
}
