use Rattle.hub_laws.proofs.Answering.{all_told}
use Rattle.hub_laws.proofs.laws.nothing_is_invented.Goals as goal

pub returns : goal.returns
returns g c = all_told g.K.Keep.logs
