use Rattle.std.proofs.Common.{◌∙◌, nat_eq}
use Rattle.indexmap.proofs.CallerLemmas.{insert_entry-new}
use Rattle.netflux_rooms.proofs.Lookups.{none_there}
use Rattle.netflux_rooms.proofs.seats.Seats.add.Goals as goal

pub returns : goal.returns
returns c = c.in_ok-insert.ensures.entries ∙ insert_entry-new nat_eq c.args.self.now.table c.args.number c.args.seat (none_there _ c.requires)
