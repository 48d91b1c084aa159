use Rattle.pad_row.proofs.Works.{turn_row}
use Rattle.pad_row.proofs.laws.turn_row.Goals as goal

pub returns : goal.returns
returns c = turn_row
