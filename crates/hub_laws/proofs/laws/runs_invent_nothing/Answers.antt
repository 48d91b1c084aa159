use Rattle.hub_laws.proofs.Running.{all_run}
use Rattle.hub_laws.proofs.laws.runs_invent_nothing.Goals as goal

pub returns : goal.returns
returns g c = all_run g.K.Keep.logs c.nothing_is_invented.ensures c.held_grows.ensures
