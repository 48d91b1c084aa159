-- The file found so far is one of them.
use Rattle.std.proofs.Common.{◌<◌}
use Rattle.file_edge.proofs.folder.Folder.least_used.Given as goal

abbrev pub invariant-loop-index : goal.invariant-loop-index
invariant-loop-index g l = l.least < l.initial.self
