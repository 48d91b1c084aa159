use Rattle.pad_graph.specs.State.{state_of}
use Rattle.pad_graph.proofs.Starting.{none_found}
use Rattle.pad_graph.proofs.graph.Graph.wait.Goals as goal

pub enter-requires-clause-found : goal.enter-requires-clause-found
enter-requires-clause-found c base links root h = none_found (state_of c.args.self.now) base links root h c.args.name c.args.parent c.requires.apart

pub returns-clause-ok : goal.returns-clause-ok
returns-clause-ok c base links root h = (none_found (state_of c.args.self.now) base links root h c.args.name c.args.parent c.requires.apart, c.in_ok-enter.ensures.ok base links root h)
