use Rattle.std.proofs.Common.{[], ◌∷◌, ◌++◌, ap, ◌∙◌}
use Rattle.pad_client.proofs.Sending.{sent_both}
use Rattle.pad_client.proofs.client.Client.send_both.Goals as goal

pub returns-clause-sends : goal.returns-clause-sends
returns-clause-sends g c =
    sent_both c.args.self.now c.make_checkpoint.new.self c.make_patch.new.self c.new.result c.in_ok-first.first c.in_ok-second.second
    (c.new.ensures ∙ c.in_ok-push-2.ensures.items ∙ ap (λ texts. texts ++ c.in_ok-second.second ∷ []) (c.in_ok-push.ensures.items ∙ ap (λ texts. texts ++ c.in_ok-first.first ∷ []) c.new-texts.ensures.items))
    c.in_ok-first.ensures.makes c.in_ok-second.ensures.makes
