-- One line more is read, and few commands make requests.
use Rattle.pad_script.specs.SessionAct.{SaysInSession}
use Rattle.pad_script.proofs.Few.{few_session_act}
use Rattle.pad_script.proofs.Scripts.{IsReadTo-more, IsReadTo-nothing, IsScript-end}
use Rattle.pad_script.proofs.script.read_session.Goals as goal

pub loop-line-init : goal.loop-line-init
loop-line-init c = rw c.new-commands.ensures.items (IsReadTo-nothing SaysInSession c.args.bytes.now)

pub loop-line-preserved : goal.loop-line-preserved
loop-line-preserved c =
    IsReadTo-more SaysInSession c.args.bytes.now c.loop-line.rest.now c.in-Some.line.now c.in-Some.after.now c.loop-line.number c.loop-line.commands.items c.push_said.new.commands.items
    c.in-Ok.said c.loop-line.invariant c.in-Some.ensures.lines c.in-Some.ensures.shorter c.in-Ok.ensures.ok c.in_ok-push_said-in-Ok.ensures

pub returns-clause-few : goal.returns-clause-few
returns-clause-few c =
    rw c.new.ensures (few_session_act c.args.bytes.now c.loop-line.commands.items
    (IsScript-end SaysInSession c.args.bytes.now c.loop-line.rest.now c.loop-line.number c.loop-line.commands.items c.loop-line.invariant c.in_default.ensures.lines))
