use Rattle.netflux_core.proofs.Holding.{run_held}
use Rattle.netflux_core.proofs.laws.stored_entries_stay.Goals as goal

pub returns : goal.returns
returns g c = run_held g.K.Keep.logs
