use Rattle.pad_row.proofs.Works.{turn_counts}
use Rattle.pad_row.proofs.laws.turn_counts.Goals as goal

pub returns : goal.returns
returns c = turn_counts
