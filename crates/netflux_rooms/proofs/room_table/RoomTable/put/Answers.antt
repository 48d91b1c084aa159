use Rattle.std.proofs.Common.{Some}
use Rattle.netflux_rooms.proofs.Lookups.{members_update_here, members_update_apart}
use Rattle.netflux_rooms.proofs.room_table.RoomTable.put.Goals as goal

pub returns-clause-here : goal.returns-clause-here
returns-clause-here c = members_update_here c.of-key.result c.args.channel c.of-key.ensures c.args.self.now.rooms c.insert.new.self (Some c.args.members) c.in_ok-insert.ensures.updates

pub returns-clause-apart : goal.returns-clause-apart
returns-clause-apart c = members_update_apart c.of-key.result c.args.channel c.of-key.ensures c.args.self.now.rooms c.insert.new.self (Some c.args.members) c.in_ok-insert.ensures.updates
