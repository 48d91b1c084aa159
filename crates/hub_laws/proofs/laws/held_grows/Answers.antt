use Rattle.hub_laws.proofs.Keeping.{all_grow}
use Rattle.hub_laws.proofs.laws.held_grows.Goals as goal

pub returns : goal.returns
returns g c = all_grow g.K.Keep.logs
