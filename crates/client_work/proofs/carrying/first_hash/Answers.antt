use Rattle.client_work.proofs.Loops.{first_hash_some, first_hash_none}
use Rattle.client_work.proofs.carrying.first_hash.Goals as goal

pub returns-in-Some : goal.returns-in-Some
returns-in-Some c = first_hash_some c.args.moves.now c.in-Some.step.now c.args.end.now c.in-Some.ensures.value

pub returns-in-None : goal.returns-in-None
returns-in-None c = first_hash_none c.args.moves.now c.args.end.now c.in-None.ensures.value
