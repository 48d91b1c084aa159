use Rattle.netflux_core.proofs.Acknowledging.{acknowledged_last}
use Rattle.netflux_core.proofs.laws.acknowledged_entries_are_the_last.Goals as goal

pub returns : goal.returns
returns g c = acknowledged_last g.K.Keep.logs
