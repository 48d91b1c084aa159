use Rattle.std.proofs.Common.{◌∙◌, ap, sym, []}
use Rattle.std.specs.Option.{unwrap_or}
use Rattle.netflux_rooms.proofs.Lookups.{members_are}
use Rattle.netflux_rooms.proofs.room_table.RoomTable.members.Goals as goal

pub returns-in-Some : goal.returns-in-Some
returns-in-Some c = c.as_slice.ensures ∙ ap (λ o. unwrap_or o []) c.in-Some.ensures.value ∙ sym (members_are c.of-key.result c.args.channel.now c.of-key.ensures c.args.self.now.rooms)

pub returns-in-None : goal.returns-in-None
returns-in-None c = ap (λ o. unwrap_or o []) c.in-None.ensures.value ∙ sym (members_are c.of-key.result c.args.channel.now c.of-key.ensures c.args.self.now.rooms)
