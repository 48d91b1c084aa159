use Rattle.std.proofs.Common.{take}
use Rattle.pad_model.specs.Path.{NamesDiffer}
use Rattle.pad_plain.specs.Inside.Chosen.{IsChosen, IsWithin}
use Rattle.pad_plain.proofs.choice.choice.Given as goal

abbrev pub invariant-loop-newest : goal.invariant-loop-newest
invariant-loop-newest l = record {
  within : IsWithin l.newest l.chosen;
  chosen : NamesDiffer l.messages → IsChosen l.base (take l.newest l.messages) l.chosen;
}
