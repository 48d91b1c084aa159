use Rattle.std.proofs.Common.{◌∙◌, subst}
use Rattle.pad_message.specs.declared.message.Message.{Message}
use Rattle.pad_client.proofs.Noting.{ReceivesOn}
use Rattle.pad_client.proofs.client.repairing.receive_own.Goals as goal

pub returns-in-Ok-clause-stands : goal.returns-in-Ok-clause-stands
returns-in-Ok-clause-stands g c =
    subst (λ (m : Message). ReceivesOn c.args.repair.now c.receive.new.self m) (c.in_ok-message.ensures ∙ c.message.ensures.is) c.in-Ok.ensures.stands
