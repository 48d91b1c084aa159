use Rattle.pad_row.proofs.Strips.{stripped_units}
use Rattle.pad_row.proofs.pairs.stripped_units.Goals as goal

pub returns : goal.returns
returns c = stripped_units
