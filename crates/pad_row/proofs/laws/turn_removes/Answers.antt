use Rattle.pad_row.proofs.Works.{turn_removes}
use Rattle.pad_row.proofs.laws.turn_removes.Goals as goal

pub returns : goal.returns
returns c = turn_removes
