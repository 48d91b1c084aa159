use Rattle.pad_graph.proofs.Chains.{chain_unique}
use Rattle.pad_graph.proofs.laws.chains_are_one.Goals as goal

pub returns : goal.returns
returns c = chain_unique
