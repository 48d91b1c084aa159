use Rattle.pad_row.proofs.PairWorks.{carried_units}
use Rattle.pad_row.proofs.pairs.carried_units.Goals as goal

pub returns : goal.returns
returns c = carried_units
