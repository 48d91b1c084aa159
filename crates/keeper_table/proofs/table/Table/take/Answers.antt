use Rattle.std.proofs.Common.{None}
use Rattle.keeper_table.proofs.Channels.{others}
use Rattle.keeper_table.proofs.table.Table.take.Goals as goal

pub returns-in-Ok-Some-clause-others : goal.returns-in-Ok-Some-clause-others
returns-in-Ok-Some-clause-others g c = others c.args.self.now.slots c.insert.new.self c.key_of-key.result c.args.channel.now None c.key_of-key.ensures c.in-Ok-Some.ensures.updates
