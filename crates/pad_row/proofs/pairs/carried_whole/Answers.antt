use Rattle.pad_row.proofs.Strips.{carried_whole}
use Rattle.pad_row.proofs.pairs.carried_whole.Goals as goal

pub returns : goal.returns
returns c = carried_whole
