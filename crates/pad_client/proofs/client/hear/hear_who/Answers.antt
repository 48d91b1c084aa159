use Rattle.std.proofs.Common.{refl}
use Rattle.pad_client.proofs.client.hear.hear_who.Goals as goal

pub returns-then-hear_member : goal.returns-then-hear_member
returns-then-hear_member c = rw c.in-Member.is (c.hear_member.result, c.hear_member.ensures, rw c.if-hear_member.true refl)

pub returns-else-hear_member : goal.returns-else-hear_member
returns-else-hear_member c = rw c.in-Member.is (c.hear_member.result, c.hear_member.ensures, rw c.if-hear_member.false refl)

pub returns-in-Keeper : goal.returns-in-Keeper
returns-in-Keeper c = rw c.in-Keeper.is (refl, c.hear_keeper.ensures)
