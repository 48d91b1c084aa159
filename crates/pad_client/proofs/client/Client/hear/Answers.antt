use Rattle.pad_client.proofs.Addressed.{by_reply, strange, full_text}
use Rattle.pad_client.proofs.client.Client.hear.Goals as goal

pub returns-in-Ok-clause-hears : goal.returns-in-Ok-clause-hears
returns-in-Ok-clause-hears g c = by_reply c.args.self.now c.hear_reply.new.self c.args.text.now c.in-Ok.reply c.hear_reply.result c.in-Ok.ensures.ok c.hear_reply.ensures.hears

pub returns-in-Ok-clause-full : goal.returns-in-Ok-clause-full
returns-in-Ok-clause-full g c = full_text c.args.self.now c.args.text.now c.in-Ok.reply c.hear_reply.result c.in-Ok.ensures.ok c.hear_reply.ensures.full

pub returns-in-Err-Strange-clause-hears : goal.returns-in-Err-Strange-clause-hears
returns-in-Err-Strange-clause-hears g c = strange c.args.self.now c.args.text.now (c.in-Err-Strange.ensures.strange c.in-Err-Strange.field-0-is)
