use Rattle.pad_row.proofs.PairWorks.{edit_units}
use Rattle.pad_row.proofs.pairs.edit_units.Goals as goal

pub returns : goal.returns
returns c = edit_units
