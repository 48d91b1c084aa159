use Rattle.pad_rope.specs.Inside.Saved.{AreSaved}
use Rattle.pad_rope.proofs.saved.to_the_end.Given as goal

abbrev pub invariant-more : goal.invariant-more
invariant-more l = AreSaved l.tree.units l.kept.value
