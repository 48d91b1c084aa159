use Rattle.pad_row.proofs.Counts.{row_counts}
use Rattle.pad_row.proofs.laws.row_counts.Goals as goal

pub returns : goal.returns
returns c = row_counts
