use Rattle.std.proofs.Common.{◌∙◌, ap, sym, [], None}
use Rattle.std.specs.Option.{unwrap_or}
use Rattle.netflux_rooms.proofs.Lookups.{members_are, members_update_here, members_update_apart}
use Rattle.netflux_rooms.proofs.room_table.RoomTable.take.Goals as goal

pub returns-in-Some-clause-taken : goal.returns-in-Some-clause-taken
returns-in-Some-clause-taken c = ap (λ o. unwrap_or o []) c.in-Some.ensures.value ∙ sym (members_are c.of-key.result c.args.channel.now c.of-key.ensures c.args.self.now.rooms)

pub returns-in-Some-clause-here : goal.returns-in-Some-clause-here
returns-in-Some-clause-here c = members_update_here c.of-key.result c.args.channel.now c.of-key.ensures c.args.self.now.rooms c.remove.new.self None c.in-Some.ensures.updates

pub returns-in-Some-clause-apart : goal.returns-in-Some-clause-apart
returns-in-Some-clause-apart c = members_update_apart c.of-key.result c.args.channel.now c.of-key.ensures c.args.self.now.rooms c.remove.new.self None c.in-Some.ensures.updates

pub returns-in-None-clause-taken : goal.returns-in-None-clause-taken
returns-in-None-clause-taken c = c.new.ensures ∙ ap (λ o. unwrap_or o []) c.in-None.ensures.value ∙ sym (members_are c.of-key.result c.args.channel.now c.of-key.ensures c.args.self.now.rooms)

pub returns-in-None-clause-here : goal.returns-in-None-clause-here
returns-in-None-clause-here c = members_update_here c.of-key.result c.args.channel.now c.of-key.ensures c.args.self.now.rooms c.remove.new.self None c.in-None.ensures.updates

pub returns-in-None-clause-apart : goal.returns-in-None-clause-apart
returns-in-None-clause-apart c = members_update_apart c.of-key.result c.args.channel.now c.of-key.ensures c.args.self.now.rooms c.remove.new.self None c.in-None.ensures.updates
