use Rattle.std.proofs.Common.{◌≡◌, Some, inr, refl, sym, ◌∙◌, ap}
use Rattle.std.proofs.lemmas.Bool.{false≢true}
use Rattle.netflux_codec.specs.declared.reply.Reply.TheVariants as reply
use Rattle.client_requests.specs.State as requested
use Rattle.pad_client.specs.declared.heard.Heard.TheVariants as heard
use Rattle.pad_client.specs.View.{View}
use Rattle.pad_client.proofs.Standing.{about}
use Rattle.pad_client.proofs.client.Client.hear_end.Goals as goal

pub returns-clause-hears : goal.returns-clause-hears
returns-clause-hears g c keeper client stands clash =
    let now = c.args.self.now in
    let other : ¬ (now.requests.channel ≡ Some c.args.channel.now) =
    λ its. false≢true (sym c.if-is_channel.false ∙ c.is_channel.ensures.1 (ap (λ (v : View). v.requests.channel) c.self.view_is ∙ its ∙ ap Some (sym c.as_str.ensures.value))) in
    about now c.told.new.self client (reply.HistoryEnd keeper c.args.channel.now c.args.total) heard.Ignored c.told.result now.requests stands
    (λ received ended. other (ap (λ (r : requested.State). r.channel) stands.requests ∙ ended.0)) (inr (other, record { told = refl; state = refl })) c.told.ensures.drops c.told.ensures.is
