use Rattle.std.specs.BTreeMap.{btree_map_len}
use Rattle.keeper_table.proofs.Channels.{others, size_kept}
use Rattle.keeper_table.proofs.table.Table.put.Goals as goal

pub returns-in-Ok-clause-others : goal.returns-in-Ok-clause-others
returns-in-Ok-clause-others g c = others c.args.self.now.slots c.insert.new.self c.key_of.result c.args.channel.now c.args.slot c.key_of.ensures c.in-Ok.ensures.updates

pub returns-in-Ok-clause-size : goal.returns-in-Ok-clause-size
returns-in-Ok-clause-size g c =
    size_kept c.args.self.now.slots c.key_of.result c.args.channel.now c.in-Ok.field-0 (btree_map_len c.insert.new.self) (btree_map_len c.args.self.now.slots)
    c.key_of.ensures c.in-Ok.ensures.old c.requires.known c.in-Ok.ensures.len
