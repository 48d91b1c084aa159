use Rattle.pad_row.proofs.Works.{turn_applies}
use Rattle.pad_row.proofs.laws.turn_applies.Goals as goal

pub returns : goal.returns
returns c = turn_applies
