use Rattle.pad_row.proofs.Works.{carried_counted}
use Rattle.pad_row.proofs.laws.carried_counted.Goals as goal

pub returns : goal.returns
returns c = carried_counted
