use Rattle.std.proofs.Common.{[], ◌∷◌, ◌++◌, ap, ◌∙◌}
use Rattle.pad_client.proofs.Sending.{sent_work}
use Rattle.pad_client.proofs.client.Client.send_work.Goals as goal

pub returns-clause-sends : goal.returns-clause-sends
returns-clause-sends g c =
    sent_work c.args.self.now c.make_patch.new.self c.new.result c.in_ok-text.text
    (c.new.ensures ∙ c.in_ok-push.ensures.items ∙ ap (λ texts. texts ++ c.in_ok-text.text ∷ []) c.new-texts.ensures.items) c.in_ok-text.ensures.makes
