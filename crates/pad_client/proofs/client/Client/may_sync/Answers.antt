use Rattle.std.proofs.Common.{length, sym, ◌∙◌, ap, subst, arith}
use Rattle.std.proofs.lemmas.Bool.{false≢true}
use Rattle.std.proofs.lemmas.Result.{err_from_is_err_and}
use Rattle.pad_list.proofs.CallerLemmas.{one_number}
use Rattle.pad_model.specs.Count.{IsKnown}
use Rattle.pad_chain.specs.State as chains
use Rattle.pad_chain.specs.Tie.{StandsFor}
use Rattle.client_requests.specs.State as requested
use Rattle.client_requests.specs.Refusal.{IsOpen}
use Rattle.pad_client.specs.View.{View, StandsAs}
use Rattle.pad_client.proofs.Limits.{open_cause}
use Rattle.pad_client.proofs.client.Client.may_sync.Goals as goal

pub returns-in_err-channel-clause-cause : goal.returns-in_err-channel-clause-cause
returns-in_err-channel-clause-cause g c =
    let told = err_from_is_err_and c.from_residual.result c.from_residual.ensures.1 in
    rw (told.1, told.2) (λ client stands. open_cause c.self.inside.requests client _ (subst (λ (v : View). StandsAs v client) (sym c.self.view_is) stands).requests c.in_err-channel.ensures.cause)

pub returns-then-long-clause-cause : goal.returns-then-long-clause-cause
returns-then-long-clause-cause g c client stands =
    let stood = subst (λ (v : View). StandsAs v client) (sym c.self.view_is) stands in
    (subst IsOpen stood.requests c.in_ok-channel.ensures.open.0, (c.in_ok-long.ensures client stands).0 c.if-long.true)

pub returns-then-overfills-clause-cause : goal.returns-then-overfills-clause-cause
returns-then-overfills-clause-cause g c client stands =
    let stood = subst (λ (v : View). StandsAs v client) (sym c.self.view_is) stands in
    let many = c.len-unacknowledged.ensures.is ∙ ap length c.outbox.ensures ∙ ap (λ (r : requested.State). length r.outbox) stood.requests in (
      subst IsOpen stood.requests c.in_ok-channel.ensures.open.0,
      λ long. false≢true (sym c.if-long.false ∙ (c.in_ok-long.ensures client stands).1 long),
      omega (arith, c.overfills.ensures.0 c.if-overfills.true, many, c.messages_made-made.ensures.made client stands),
    )

pub returns-then-passes_known-clause-cause : goal.returns-then-passes_known-clause-cause
returns-then-passes_known-clause-cause g c client stands =
    let pad = client.copy.pad in
    let stood = subst (λ (v : View). StandsAs v client) (sym c.self.view_is) stands in
    let many = c.len-unacknowledged.ensures.is ∙ ap length c.outbox.ensures ∙ ap (λ (r : requested.State). length r.outbox) stood.requests in
    let chain = subst (λ (v : chains.View). StandsFor v pad.base pad.received pad.choice) (sym c.chain.ensures) stood.copy.pad.stands in (
      subst IsOpen stood.requests c.in_ok-channel.ensures.open.0,
      λ long. false≢true (sym c.if-long.false ∙ (c.in_ok-long.ensures client stands).1 long),
      λ over. false≢true (sym c.if-overfills.false ∙ c.overfills.ensures.1 (omega (arith, over, many, c.messages_made-made.ensures.made client stands))),
      (
        c.known-known.result,
        c.known-known.ensures.stands pad.base pad.received pad.choice chain,
        omega (arith, c.passes_known.ensures.0 c.if-passes_known.true, c.messages_made-made.ensures.made client stands),
      ),
    )

pub returns-clause-may : goal.returns-clause-may
returns-clause-may g c client stands =
    let pad = client.copy.pad in
    let stood = subst (λ (v : View). StandsAs v client) (sym c.self.view_is) stands in
    let made = c.messages_made-made.ensures.made client stands in
    let many = c.len-unacknowledged.ensures.is ∙ ap length c.outbox.ensures ∙ ap (λ (r : requested.State). length r.outbox) stood.requests in
    let chain = subst (λ (v : chains.View). StandsFor v pad.base pad.received pad.choice) (sym c.chain.ensures) stood.copy.pad.stands in
    let number = c.known-known.ensures.stands pad.base pad.received pad.choice chain in (
      record {
        is_open = subst IsOpen stood.requests c.in_ok-channel.ensures.open.0;
        short = λ long. false≢true (sym c.if-long.false ∙ (c.in_ok-long.ensures client stands).1 long);
        room = λ over. false≢true (sym c.if-overfills.false ∙ c.overfills.ensures.1 (omega (arith, over, many, made)));
        known = λ passes. false≢true (sym c.if-passes_known.false
            ∙ c.passes_known.ensures.1 (omega (arith, passes.2, made, one_number (IsKnown pad.base pad.received) passes.0 c.known-known.result passes.1 number)));
      },
      made,
    )
