use Rattle.std.proofs.Common.{◌==◌, sym, ◌∙◌, ap, subst}
use Rattle.std.proofs.lemmas.Bool.{false≢true}
use Rattle.pad_stroke.specs.Work.{Marked}
use Rattle.pad_chain.specs.State as chains
use Rattle.pad_chain.specs.Tie.{StandsFor}
use Rattle.pad_client.specs.Refusal.{is_due}
use Rattle.pad_client.specs.View.{View, StandsAs}
use Rattle.pad_client.proofs.Limits.{not_zero}
use Rattle.pad_client.proofs.Sending.{made_none, made_one, made_two}
use Rattle.pad_client.proofs.client.Client.messages_made.Goals as goal

pub returns-then-is_empty-clause-made : goal.returns-then-is_empty-clause-made
returns-then-is_empty-clause-made g c client stands =
    let stood = subst (λ (v : View). StandsAs v client) (sym c.self.view_is) stands in
    let same = ap (λ (w : Marked). w.patch.ops) (c.work.ensures.is ∙ stood.copy.work) in
    sym (made_none client.copy.work.patch.ops (is_due client.copy.pad) (sym same ∙ c.is_empty.ensures.empty.0 c.if-is_empty.true))

pub returns-then-due-clause-made : goal.returns-then-due-clause-made
returns-then-due-clause-made g c client stands =
    let stood = subst (λ (v : View). StandsAs v client) (sym c.self.view_is) stands in
    let pad = client.copy.pad in
    let same = ap (λ (w : Marked). w.patch.ops) (c.work.ensures.is ∙ stood.copy.work) in
    let chain = subst (λ (v : chains.View). StandsFor v pad.base pad.received pad.choice) (sym c.chain.ensures) stood.copy.pad.stands in
    sym (made_two client.copy.work.patch.ops (is_due pad) (λ none. false≢true (sym c.if-is_empty.false ∙ c.is_empty.ensures.empty.1 (same ∙ none)))
    (ap (λ n. n == 0) ((c.due.ensures.stands pad.base pad.received pad.choice chain).0 c.if-due.true)))

pub returns-clause-made : goal.returns-clause-made
returns-clause-made g c client stands =
    let stood = subst (λ (v : View). StandsAs v client) (sym c.self.view_is) stands in
    let pad = client.copy.pad in
    let same = ap (λ (w : Marked). w.patch.ops) (c.work.ensures.is ∙ stood.copy.work) in
    let chain = subst (λ (v : chains.View). StandsFor v pad.base pad.received pad.choice) (sym c.chain.ensures) stood.copy.pad.stands in
    sym (made_one client.copy.work.patch.ops (is_due pad) (λ none. false≢true (sym c.if-is_empty.false ∙ c.is_empty.ensures.empty.1 (same ∙ none)))
    (not_zero _ (λ none. false≢true (sym c.if-due.false ∙ (c.due.ensures.stands pad.base pad.received pad.choice chain).1 none))))
