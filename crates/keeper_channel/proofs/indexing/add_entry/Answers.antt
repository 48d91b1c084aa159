use Rattle.std.proofs.lemmas.Result.{on_ok_weaker}
use Rattle.keeper_channel.proofs.indexing.add_entry.Goals as goal

pub returns-in-Ok-clause-added : goal.returns-in-Ok-clause-added
returns-in-Ok-clause-added g c = λ told doubt held suspense payloads live is.
    let got = c.in-Ok.ensures.payload told doubt held suspense live in
    on_ok_weaker c.add_payload.result (λ both. (c.in-Ok.payload, got, both.0, both.1)) (c.add_payload.ensures.added payloads is)

pub returns-in-Ok-clause-other : goal.returns-in-Ok-clause-other
returns-in-Ok-clause-other g c = λ told doubt held suspense live damage is.
    let other = c.add_payload.ensures.other damage is in
    (c.in-Ok.payload, c.in-Ok.ensures.payload told doubt held suspense live, other.0, other.1)

pub returns-in-Ok-clause-indexed : goal.returns-in-Ok-clause-indexed
returns-in-Ok-clause-indexed g c = λ payloads is. on_ok_weaker c.add_payload.result (λ both. (c.in-Ok.payload, both.0)) (c.add_payload.ensures.added payloads is)
