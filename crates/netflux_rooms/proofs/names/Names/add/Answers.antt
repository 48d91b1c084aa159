use Rattle.std.proofs.Common.{Some}
use Rattle.netflux_rooms.proofs.Lookups.{names_update_here, names_update_apart}
use Rattle.netflux_rooms.proofs.names.Names.add.Goals as goal

pub returns-clause-here : goal.returns-clause-here
returns-clause-here c = names_update_here c.of-key.result c.args.id c.of-key.ensures c.args.self.now.ids c.insert.new.self (Some c.args.number) c.in_ok-insert.ensures.updates

pub returns-clause-apart : goal.returns-clause-apart
returns-clause-apart c = names_update_apart c.of-key.result c.args.id c.of-key.ensures c.args.self.now.ids c.insert.new.self (Some c.args.number) c.in_ok-insert.ensures.updates
