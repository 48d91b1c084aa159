use Rattle.world_laws.proofs.Telling.{taken_entries}
use Rattle.world_laws.proofs.laws.taken_are_entries.Goals as goal

pub returns : goal.returns
returns c = taken_entries c.contents_read_back.ensures
