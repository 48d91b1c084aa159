use Rattle.std.proofs.Common.{◌≡◌, ◌∙◌, Some, None, arith, sym, ap}
use Rattle.keeper_table.specs.Table.{joined}
use Rattle.keeper_log.proofs.keeper.Keeper.new.Goals as goal

pub returns-clause-made : goal.returns-clause-made
returns-clause-made g c = record {
  slots = λ channel slot is. let e : None ≡ Some slot = sym (ap joined (c.new.ensures.none channel)) ∙ is in absurd (cc);
  few = omega (arith, c.new.ensures.size);
}
