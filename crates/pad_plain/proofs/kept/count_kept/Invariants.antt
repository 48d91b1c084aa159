use Rattle.std.proofs.Common.{◌≤◌, List, take}
use Rattle.pad_message.specs.declared.message.Message.{Message}
use Rattle.pad_model.specs.Path.{NamesDiffer}
use Rattle.pad_list.specs.Number.{IsNumberOf}
use Rattle.pad_model.specs.Count.{IsKept}
use Rattle.pad_plain.specs.Inside.Candidate.{names_of}
use Rattle.pad_plain.specs.Inside.Through.{IsRoot}
use Rattle.pad_plain.proofs.Counting.{IsAmong}
use Rattle.pad_plain.proofs.kept.count_kept.Given as goal

abbrev pub invariant-loop-candidate : goal.invariant-loop-candidate
invariant-loop-candidate l = record {
  few : l.kept ≤ l.candidate-index;
  number : NamesDiffer l.received → (path : List Message) → IsRoot l.base l.received l.root path → IsNumberOf (IsAmong (names_of (take l.candidate-index l.candidates)) (IsKept l.base l.received path)) l.kept;
}
