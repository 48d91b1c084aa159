use Rattle.std.proofs.Common.{◌≡◌, ◌++◌, take}
use Rattle.pad_graph.specs.Inside.Hanging.{linkings_of}
use Rattle.pad_graph.proofs.hanging.with_names.Given as goal

abbrev pub invariant-loop-name : goal.invariant-loop-name
invariant-loop-name l = l.found.items ≡ l.initial.found.items ++ linkings_of l.stop l.height (take l.name-index l.names)
