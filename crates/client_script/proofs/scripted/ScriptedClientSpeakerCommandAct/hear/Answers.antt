use Rattle.std.proofs.Common.{◌≡◌, ap, refl}
use Rattle.client_script.specs.Script.{HearsText}
use Rattle.client_script.specs.State.{Scripted}
use Rattle.client_script.proofs.Lines.{heard_so}
use Rattle.client_script.proofs.scripted.ScriptedClientSpeakerCommandAct.hear.Goals as goal

pub returns-in_ok-heard_line-in-Ok-clause-hears : goal.returns-in_ok-heard_line-in-Ok-clause-hears
returns-in_ok-heard_line-in-Ok-clause-hears g c state stands may =
    let done = c.in-Ok.ensures.hears state.client stands.client may in
    heard_so state c.in-Ok.heard done.0 done.1 c.in_ok-heard_line-in-Ok.ensures c.after-self.ensures stands.hearing done.2
