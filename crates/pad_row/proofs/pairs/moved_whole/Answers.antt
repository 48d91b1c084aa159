use Rattle.pad_row.proofs.Strips.{moved_whole}
use Rattle.pad_row.proofs.pairs.moved_whole.Goals as goal

pub returns : goal.returns
returns c = moved_whole
