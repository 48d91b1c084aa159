use Rattle.pad_row.proofs.Works.{stripped_counts}
use Rattle.pad_row.proofs.laws.stripped_counts.Goals as goal

pub returns : goal.returns
returns c = stripped_counts
