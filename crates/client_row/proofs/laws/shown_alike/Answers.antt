use Rattle.client_row.proofs.Along.{alike}
use Rattle.client_row.proofs.laws.shown_alike.Goals as goal

pub returns : goal.returns
returns c = alike
