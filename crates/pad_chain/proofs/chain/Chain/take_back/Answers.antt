use Rattle.std.specs.BTreeMap.{get}
use Rattle.pad_graph.specs.State.{name_cmp}
use Rattle.pad_chain.proofs.Arms.{removed_held}
use Rattle.pad_chain.proofs.chain.Chain.take_back.Goals as goal

pub invariant_of-self : goal.invariant_of-self
invariant_of-self g c = removed_held (get name_cmp c.self.inside.messages) (get name_cmp c.remove.new.self) c.args.name.now c.remove.ensures.updates.0 c.self.invariant
