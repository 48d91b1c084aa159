use Rattle.world_laws.proofs.Telling.{founded_entries}
use Rattle.world_laws.proofs.laws.founded_bring_entries.Goals as goal

pub returns : goal.returns
returns c = founded_entries
