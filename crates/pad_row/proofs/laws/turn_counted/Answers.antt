use Rattle.pad_row.proofs.Works.{turn_counted}
use Rattle.pad_row.proofs.laws.turn_counted.Goals as goal

pub returns : goal.returns
returns c = turn_counted
