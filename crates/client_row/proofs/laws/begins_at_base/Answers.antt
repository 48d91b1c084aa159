use Rattle.client_row.proofs.Along.{at_base}
use Rattle.client_row.proofs.laws.begins_at_base.Goals as goal

pub returns : goal.returns
returns c = at_base
