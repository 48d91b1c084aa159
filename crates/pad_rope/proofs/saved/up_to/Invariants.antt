use Rattle.std.proofs.Common.{List, ℕ}
use Rattle.pad_rope.specs.Inside.Saved.{AreSaved}
use Rattle.pad_rope.proofs.Fronts.{Serves}
use Rattle.pad_rope.proofs.saved.up_to.Given as goal

abbrev pub invariant-back : goal.invariant-back
invariant-back l = (before : List ℕ) → AreSaved before l.saved.value → Serves l.place before l.kept.value
