use Rattle.std.proofs.Common.{◌≡◌, ◌∙◌, List, ℕ, Some, sym, subst}
use Rattle.std.specs.Prelude.{slice_get}
use Rattle.std.proofs.lemmas.Result.{IfOk-weaker}
use Rattle.keeper_entry.specs.Entry.{IsEntry}
use Rattle.keeper_channel.specs.Chan.{at_moment_zero}
use Rattle.keeper_channel.proofs.reading.read_moved.Goals as goal

pub returns-in-Ok-clause-payload : goal.returns-in-Ok-clause-payload
returns-in-Ok-clause-payload g c = λ told payloads holds.
    let got = c.in-Ok.ensures.payload told payloads holds in
    let Q : List ℕ → Type 0 = λ moved. (payload : List ℕ) × (slice_get payloads c.args.index ≡ Some payload) × (moved ≡ at_moment_zero payload) in
    IfOk-weaker c.check_entry.result (λ same. same ≡ c.in-Ok.payload) Q (λ same is. (got.0, got.1, is ∙ got.2)) c.check_entry.ensures.same

pub returns-in-Ok-clause-damaged : goal.returns-in-Ok-clause-damaged
returns-in-Ok-clause-damaged g c = λ told payloads holds damage is.
    let got = c.in-Ok.ensures.payload told payloads holds in
    (got.0, got.1, λ entry. (c.check_entry.ensures.damaged damage is).1 (subst IsEntry (sym got.2) entry))
