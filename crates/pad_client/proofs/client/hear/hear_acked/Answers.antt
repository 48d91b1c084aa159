use Rattle.std.proofs.Common.{refl}
use Rattle.pad_client.proofs.client.hear.hear_acked.Goals as goal

pub returns-then-hear_ack : goal.returns-then-hear_ack
returns-then-hear_ack c = (c.hear_ack.result, c.hear_ack.ensures, rw c.if-hear_ack.true refl)

pub returns-else-hear_ack : goal.returns-else-hear_ack
returns-else-hear_ack c = (c.hear_ack.result, c.hear_ack.ensures, rw c.if-hear_ack.false refl)
