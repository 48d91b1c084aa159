use Rattle.pad_graph.proofs.Same.{new_chains}
use Rattle.pad_graph.proofs.laws.new_chains_have_the_link.Goals as goal

pub returns : goal.returns
returns c = new_chains
