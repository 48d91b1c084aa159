use Rattle.std.proofs.Common.{◌∙◌, ap, subst}
use Rattle.pad_script.specs.declared.act.Act.TheVariants as act
use Rattle.client_requests.specs.State as requested
use Rattle.client_requests.specs.Refusal.{IsAskCause}
use Rattle.pad_client.specs.View.{View}
use Rattle.client_script.specs.declared.hearing.Hearing.TheVariants as hearing
use Rattle.client_script.proofs.Lines.{both_ok, comes_so, asked, refused_for}
use Rattle.client_script.proofs.scripted.ScriptedClient.history.Goals as goal

pub returns-in-Ok-clause-does : goal.returns-in-Ok-clause-does
returns-in-Ok-clause-does g c =
    let done = c.in-Ok.ensures.asks in
    both_ok c.sends_one.result c.sends_one.ensures.texts c.sends_one.ensures.lines (λ said texts lines client stands may.
    comes_so
    (asked c.args.self.now.client client c.args.line c.args.from c.in-Ok.text done.0 stands done.1)
    texts lines done.2 (ap hearing.History (c.requests.ensures ∙ ap (λ (v : View). v.requests.last) done.2)))

pub returns-in-Err-clause-does : goal.returns-in-Err-clause-does
returns-in-Err-clause-does g c =
    both_ok c.refuses_call.result c.refuses_call.ensures.texts c.refuses_call.ensures.lines (λ said texts lines client stands may.
    comes_so
    (refused_for c.args.self.now.client client c.args.line (act.History c.args.from) lines.0 stands
    (c.in-Err.refused, subst (λ (r : requested.State). IsAskCause r c.in-Err.refused) stands.requests c.in-Err.ensures.cause, lines.1))
    texts lines.2 c.in-Err.ensures.unchanged c.requires.quiet)
