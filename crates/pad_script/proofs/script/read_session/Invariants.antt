-- The lines before the rest of the script are read.
use Rattle.std.proofs.Common.{length}
use Rattle.pad_script.specs.SessionAct.{SaysInSession}
use Rattle.pad_script.proofs.Scripts.{IsReadTo}
use Rattle.pad_script.proofs.script.read_session.Given as goal

abbrev pub invariant-loop-line : goal.invariant-loop-line
invariant-loop-line l = IsReadTo SaysInSession l.bytes l.rest l.number l.commands.items

abbrev pub decreases-loop-line : goal.decreases-loop-line
decreases-loop-line l = length l.rest
