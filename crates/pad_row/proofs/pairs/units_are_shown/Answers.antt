use Rattle.pad_row.proofs.PairWorks.{units_are_shown}
use Rattle.pad_row.proofs.pairs.units_are_shown.Goals as goal

pub returns : goal.returns
returns c = units_are_shown
