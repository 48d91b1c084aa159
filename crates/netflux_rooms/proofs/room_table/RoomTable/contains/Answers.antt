use Rattle.std.proofs.Common.{◌∙◌, ap, sym, [], nat_eq}
use Rattle.std.specs.Option.{unwrap_or}
use Rattle.std.specs.List.{list_any}
use Rattle.netflux_rooms.proofs.Lookups.{members_are}
use Rattle.netflux_rooms.proofs.room_table.RoomTable.contains.Goals as goal

pub returns-in-Some : goal.returns-in-Some
returns-in-Some c = c.contains.ensures ∙ ap (λ l. list_any (nat_eq c.args.number) l) (ap (λ o. unwrap_or o []) c.in-Some.ensures.value ∙ sym (members_are c.of-key.result c.args.channel.now c.of-key.ensures c.args.self.now.rooms))

pub returns-in-None : goal.returns-in-None
returns-in-None c = ap (λ l. list_any (nat_eq c.args.number) l) (ap (λ o. unwrap_or o []) c.in-None.ensures.value ∙ sym (members_are c.of-key.result c.args.channel.now c.of-key.ensures c.args.self.now.rooms))
