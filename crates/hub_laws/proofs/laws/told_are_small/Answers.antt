use Rattle.hub_laws.proofs.Small.{all_small}
use Rattle.hub_laws.proofs.laws.told_are_small.Goals as goal

pub returns : goal.returns
returns g c = all_small g.K.Keep.logs
