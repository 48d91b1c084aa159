use Rattle.std.proofs.Common.{◌≡◌, ◌≤◌, List, [], ◌∷◌, ◌++◌, take}
use Rattle.pad_message.specs.declared.message.Message.{Message}
use Rattle.pad_model.specs.Path.{NamesDiffer}
use Rattle.pad_list.specs.Number.{IsNumberOf}
use Rattle.pad_model.specs.Choice.{Choice, Overtakes}
use Rattle.pad_plain.specs.Inside.Candidate.{names_of}
use Rattle.pad_plain.specs.Inside.Chosen.{IsChosenAs}
use Rattle.pad_plain.proofs.Counting.{IsAmong}
use Rattle.pad_plain.proofs.overtaking.count_overtaking.Given as goal

abbrev pub invariant-loop-candidate : goal.invariant-loop-candidate
invariant-loop-candidate l = record {
  few : l.more ≤ l.candidate-index;
  number : NamesDiffer l.received → (earlier : List Message) (message : Message) → l.received ≡ earlier ++ message ∷ [] → (choice : Choice) → IsChosenAs l.base earlier l.before choice → IsNumberOf (IsAmong (names_of (take l.candidate-index l.candidates)) (Overtakes l.base earlier message choice)) l.more;
}
