use Rattle.std.proofs.Common.{refl}
use Rattle.client_script.proofs.Lines.{comes_so, settled, heard_on, set_so, shown_so}
use Rattle.client_script.proofs.scripted.ScriptedClientSpeakerCommandAct.command.Goals as goal

pub returns-in-Settle-clause-does : goal.returns-in-Settle-clause-does
returns-in-Settle-clause-does g c state stands may =
    rw c.in-Settle.is (comes_so (settled state.client c.args.command.now.line stands.client) c.says_nothing.ensures.texts c.says_nothing.ensures.lines refl refl)

pub returns-in-Hear-clause-does : goal.returns-in-Hear-clause-does
returns-in-Hear-clause-does g c state stands may =
    rw c.in-Hear.is (comes_so (heard_on state.client c.args.command.now.line c.in-Hear.count stands.client) c.says_nothing-in-Hear.ensures.texts c.says_nothing-in-Hear.ensures.lines refl refl)

pub returns-in-Interval-clause-does : goal.returns-in-Interval-clause-does
returns-in-Interval-clause-does g c state stands may =
    rw c.in-Interval.is (comes_so (set_so state.client c.args.command.now.line c.in-Interval.messages stands.client) c.says_nothing-in-Interval.ensures.texts c.says_nothing-in-Interval.ensures.lines c.set_interval.ensures refl)

pub returns-in_ok-show-in-Show-clause-does : goal.returns-in_ok-show-in-Show-clause-does
returns-in_ok-show-in-Show-clause-does g c state stands may =
    rw c.in-Show.is (comes_so (shown_so state.client c.args.command.now.line c.in_ok-show-in-Show.field-0 (c.in_ok-show-in-Show.ensures state.client stands.client) stands.client) c.says.ensures.texts c.says.ensures.lines refl refl)
