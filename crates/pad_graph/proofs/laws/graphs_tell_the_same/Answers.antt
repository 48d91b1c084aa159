use Rattle.pad_graph.proofs.Same.{tell_the_same}
use Rattle.pad_graph.proofs.laws.graphs_tell_the_same.Goals as goal

pub returns : goal.returns
returns c = tell_the_same
