use Rattle.std.proofs.Common.{None}
use Rattle.keeper_table.proofs.Channels.{others}
use Rattle.keeper_table.proofs.table.Table.add.Goals as goal

pub returns-in-Ok-clause-others : goal.returns-in-Ok-clause-others
returns-in-Ok-clause-others g c = others c.args.self.now.slots c.insert.new.self c.key_of.result c.args.channel.now None c.key_of.ensures c.in-Ok.ensures.updates
