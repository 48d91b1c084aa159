use Rattle.std.proofs.Common.{◌++◌, ◌∙◌, ap, refl, sym, subst}
use Rattle.pad_script.specs.declared.act.Act.TheVariants as act
use Rattle.client_requests.specs.State as requested
use Rattle.client_requests.specs.Refusal.{IsAskCause}
use Rattle.client_copy.specs.View.{NoClash}
use Rattle.pad_client.specs.Sync.{own_messages}
use Rattle.client_script.specs.declared.hearing.Hearing.TheVariants as hearing
use Rattle.client_script.proofs.Lines.{both_ok, comes_so, repaired, refused_for}
use Rattle.client_script.proofs.scripted.ScriptedClient.repair.Goals as goal

pub returns-in-Ok-clause-does : goal.returns-in-Ok-clause-does
returns-in-Ok-clause-does g c =
    both_ok c.sends_one.result c.sends_one.ensures.texts c.sends_one.ensures.lines (λ said texts lines client stands may.
    let clear = subst (λ (r : requested.State). NoClash (own_messages r.outbox ++ client.copy.pad.all)) (sym stands.requests) may in
    let done = c.in-Ok.ensures.begins client stands clear in
    comes_so (repaired client c.args.line c.in-Ok.text done.0 done.1 done.2)
    texts lines refl (ap hearing.Repair (c.requests.ensures ∙ ap (λ (r : requested.State). r.last) done.2.requests)))

pub returns-in-Err-clause-does : goal.returns-in-Err-clause-does
returns-in-Err-clause-does g c =
    both_ok c.refuses_call.result c.refuses_call.ensures.texts c.refuses_call.ensures.lines (λ said texts lines client stands may.
    comes_so
    (refused_for c.args.self.now.client client c.args.line act.Repair lines.0 stands
    (c.in-Err.refused, subst (λ (r : requested.State). IsAskCause r c.in-Err.refused) stands.requests c.in-Err.ensures.cause, lines.1))
    texts lines.2 c.in-Err.ensures.unchanged c.requires.quiet)
