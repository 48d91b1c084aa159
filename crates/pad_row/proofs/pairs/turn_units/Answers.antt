use Rattle.pad_row.proofs.PairWorks.{turn_units}
use Rattle.pad_row.proofs.pairs.turn_units.Goals as goal

pub returns : goal.returns
returns c = turn_units
