use Rattle.world_laws.proofs.Telling.{steps_tell}
use Rattle.world_laws.proofs.laws.steps_tell.Goals as goal

pub returns : goal.returns
returns g c = steps_tell g.K.Keep.logs c.told_are_small.ensures c.founded_bring_entries.ensures
