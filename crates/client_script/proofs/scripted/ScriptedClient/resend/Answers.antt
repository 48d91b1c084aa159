use Rattle.std.proofs.Common.{subst}
use Rattle.pad_script.specs.declared.act.Act.TheVariants as act
use Rattle.client_requests.specs.State as requested
use Rattle.client_requests.specs.Refusal.{IsOpenCause}
use Rattle.client_script.proofs.Lines.{both_ok, comes_so, sent_again, refused_for}
use Rattle.client_script.proofs.scripted.ScriptedClient.resend.Goals as goal

pub returns-in-Ok-clause-does : goal.returns-in-Ok-clause-does
returns-in-Ok-clause-does g c client stands may =
    let done = c.in-Ok.ensures.resends in
    comes_so (sent_again c.args.self.now.client client c.args.line c.in-Ok.texts done.0 stands done.1) c.sends.ensures.texts c.sends.ensures.lines done.2 c.requires.quiet

pub returns-in-Err-clause-does : goal.returns-in-Err-clause-does
returns-in-Err-clause-does g c =
    both_ok c.refuses_call.result c.refuses_call.ensures.texts c.refuses_call.ensures.lines (λ said texts lines client stands may.
    comes_so
    (refused_for c.args.self.now.client client c.args.line act.Resend lines.0 stands
    (c.in-Err.refused, subst (λ (r : requested.State). IsOpenCause r c.in-Err.refused) stands.requests c.in-Err.ensures.cause, lines.1))
    texts lines.2 c.in-Err.ensures.unchanged c.requires.quiet)
