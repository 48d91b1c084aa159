-- the chain never truncates
use Rattle.std.proofs.Common.{◌≡◌, true}
use Rattle.client_copy.proofs.tests.repaired.Given as goal

abbrev pub invariant-loop-content : goal.invariant-loop-content
invariant-loop-content g l = l.chain.whole ≡ true
