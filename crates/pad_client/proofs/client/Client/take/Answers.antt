use Rattle.std.proofs.lemmas.Result.{IfErr-weaker}
use Rattle.pad_client.proofs.Taking.{counted}
use Rattle.pad_client.proofs.Addressed.{by_message}
use Rattle.pad_client.proofs.client.Client.take.Goals as goal

pub returns-in-Ok-clause-hears : goal.returns-in-Ok-clause-hears
returns-in-Ok-clause-hears g c = by_message c.args.self.now c.take_message.new.self c.args.content.now c.args.entry c.in-Ok.message c.take_message.result c.in-Ok.ensures.ok c.take_message.ensures.hears

pub returns-in-Ok-clause-full : goal.returns-in-Ok-clause-full
returns-in-Ok-clause-full g c = IfErr-weaker c.take_message.result _ _ (λ refused why is client stands. (c.in-Ok.message, c.in-Ok.ensures.ok, why is client stands)) c.take_message.ensures.full

pub returns-in-Err-Unreadable-clause-hears : goal.returns-in-Err-Unreadable-clause-hears
returns-in-Err-Unreadable-clause-hears g c client stands differs =
    counted c.args.self.now c.count_unreadable.new.self client c.args.entry c.args.content.now stands
    (c.in-Err-Unreadable.ensures.unreadable c.in-Err-Unreadable.field-0-is) c.count_unreadable.ensures
