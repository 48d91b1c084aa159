use Rattle.pad_row.proofs.PairWorks.{turn_whole}
use Rattle.pad_row.proofs.pairs.turn_whole.Goals as goal

pub returns : goal.returns
returns c = turn_whole
