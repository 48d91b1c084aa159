use Rattle.netflux_rooms.proofs.Keys.{entries_removed}
use Rattle.std.proofs.Common.{◌∙◌}
use Rattle.netflux_rooms.proofs.seats.Seats.remove.Goals as goal

pub returns : goal.returns
returns c = c.shift_remove.ensures.entries ∙ entries_removed c.args.number c.args.self.now.table.entries c.len-unique.ensures.unique
