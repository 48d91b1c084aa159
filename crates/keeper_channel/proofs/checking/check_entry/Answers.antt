use Rattle.std.proofs.lemmas.Result.{on_ok_weaker}
use Rattle.keeper_channel.proofs.checking.check_entry.Goals as goal

pub returns-in-Ok-clause-entry : goal.returns-in-Ok-clause-entry
returns-in-Ok-clause-entry g c = λ told doubt held suspense live.
    let got = c.in-Ok.ensures.payload told doubt held suspense live in
    on_ok_weaker c.check_payload.result (λ entry. (c.in-Ok.payload, got, entry)) c.check_payload.ensures.entry

pub returns-in-Ok-clause-other : goal.returns-in-Ok-clause-other
returns-in-Ok-clause-other g c = λ told doubt held suspense live damage is.
    let other = c.check_payload.ensures.other damage is in
    (c.in-Ok.payload, c.in-Ok.ensures.payload told doubt held suspense live, other.0, other.1)
