use Rattle.std.proofs.Common.{◌≡◌, ◌∙◌, List, ℕ, Some, sym, ap}
use Rattle.std.specs.Prelude.{slice_get}
use Rattle.std.proofs.lemmas.Result.{IfOk-weaker}
use Rattle.keeper_channel.proofs.Chans.{entry_at}
use Rattle.keeper_channel.proofs.reading.read_checked.Goals as goal

pub read_payload-requires-clause-index : goal.read_payload-requires-clause-index
read_payload-requires-clause-index g c = (c.args.channel.now.count, c.requires.live.counted, c.requires.index)

pub read_payload-requires-clause-holds : goal.read_payload-requires-clause-holds
read_payload-requires-clause-holds g c = λ told. let given = c.requires.channel told in (given.0, given.1, given.2, given.3.live)

pub returns-in-Ok-clause-payload : goal.returns-in-Ok-clause-payload
returns-in-Ok-clause-payload g c = λ told doubt held suspense is.
    let got = c.in-Ok.ensures.payload told doubt held suspense is.live in
    IfOk-weaker c.check_entry.result (λ (same : List ℕ). same ≡ c.in-Ok.payload) (λ (payload : List ℕ). slice_get held c.args.index ≡ Some payload) (λ payload same. got ∙ ap Some (sym same)) c.check_entry.ensures.same

pub returns-in-Ok-clause-sound : goal.returns-in-Ok-clause-sound
returns-in-Ok-clause-sound g c = λ told damage is.
    let given = c.requires.channel told in
    let got = c.in-Ok.ensures.payload told given.0 given.1 given.2 given.3.live in
    (c.check_entry.ensures.damaged damage is).1 (entry_at given.1 c.args.index c.in-Ok.payload given.3.entries got)
