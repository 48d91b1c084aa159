use Rattle.std.proofs.Common.{refl, sym, ◌∙◌, ap}
use Rattle.std.proofs.lemmas.Bool.{false≢true}
use Rattle.pad_client.specs.View.{View}
use Rattle.pad_client.specs.Hear.{addressed_to}
use Rattle.pad_client.proofs.Addressed.{by_content, by_other, full_content}
use Rattle.pad_client.proofs.client.Client.hear_content.Goals as goal

pub returns-then-is_channel-clause-hears : goal.returns-then-is_channel-clause-hears
returns-then-is_channel-clause-hears g c =
    by_content c.args.self.now c.take.new.self (addressed_to c.args.target.now c.args.entry c.args.content.now) c.take.result
    (sym (ap (λ (v : View). v.requests.channel) c.self.view_is) ∙ c.is_channel.ensures.0 c.if-is_channel.true) c.take.ensures.hears

pub returns-then-is_channel-clause-full : goal.returns-then-is_channel-clause-full
returns-then-is_channel-clause-full g c =
    full_content c.args.self.now (addressed_to c.args.target.now c.args.entry c.args.content.now) c.take.result
    (sym (ap (λ (v : View). v.requests.channel) c.self.view_is) ∙ c.is_channel.ensures.0 c.if-is_channel.true) c.take.ensures.full

pub returns-clause-hears : goal.returns-clause-hears
returns-clause-hears g c =
    by_other c.args.self.now c.args.self.now (addressed_to c.args.target.now c.args.entry c.args.content.now) refl
    (λ its. false≢true (sym c.if-is_channel.false ∙ c.is_channel.ensures.1 (ap (λ (v : View). v.requests.channel) c.self.view_is ∙ its)))
