use Rattle.pad_generator.proofs.Steps.{Keeps}
use Rattle.pad_generator.proofs.generator.in_order.Given as goal

abbrev pub invariant-items : goal.invariant-items
invariant-items l = Keeps l.number l.counter l.words l.recent l.contents.items
