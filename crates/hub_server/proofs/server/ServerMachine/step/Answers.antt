-- A step of a server is the hub's.
use Rattle.std.proofs.Common.{refl}
use Rattle.std.proofs.lemmas.Result.{IfOk-weaker}
use Rattle.hub_server.proofs.Answering.{when_ok, if_ok_with}
use Rattle.hub_server.proofs.server.ServerMachine.step.Goals as goal

pub step-requires-clause-whole : goal.step-requires-clause-whole
step-requires-clause-whole g c = c.requires.0

pub step-requires-clause-sound : goal.step-requires-clause-sound
step-requires-clause-sound g c = c.requires.1

pub step-requires-clause-tie : goal.step-requires-clause-tie
step-requires-clause-tie g c = c.requires.2

pub returns-clause-ready : goal.returns-clause-ready
returns-clause-ready g c = when_ok c.step.result _ _ _ _ (λ outs can sound kept. (can.whole, sound, kept)) c.step.ensures.served c.step.ensures.sound c.step.ensures.tie

pub returns-clause-step : goal.returns-clause-step
returns-clause-step g c = λ told serving stands.
    if_ok_with c.step.result _ _ _ (λ outs made sound. (record serving { state = made.0 }, record { step = made.1; now_is = refl }, (sound, made.2)))
    (c.step.ensures.step told serving.identities serving.first serving.state stands.1) c.step.ensures.sound

pub returns-clause-broken : goal.returns-clause-broken
returns-clause-broken g c = λ told serving stands. c.step.ensures.broken told serving.identities serving.first serving.state stands.1

pub returns-clause-leaves : goal.returns-clause-leaves
returns-clause-leaves g c = (c.step.ensures.follows, c.step.ensures.later, c.step.ensures.files)

pub returns-clause-hangs : goal.returns-clause-hangs
returns-clause-hangs g c = IfOk-weaker c.step.result _ _ (λ outs served. served.hangs) c.step.ensures.served

pub returns-clause-closes : goal.returns-clause-closes
returns-clause-closes g c = IfOk-weaker c.step.result _ _ (λ outs served. served.closes) c.step.ensures.served
