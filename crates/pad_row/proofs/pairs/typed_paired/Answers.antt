use Rattle.pad_row.proofs.PairWorks.{typed_paired}
use Rattle.pad_row.proofs.pairs.typed_paired.Goals as goal

pub returns : goal.returns
returns c = typed_paired
