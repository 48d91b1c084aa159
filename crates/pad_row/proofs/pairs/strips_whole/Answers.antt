use Rattle.pad_row.proofs.Strips.{strips_whole}
use Rattle.pad_row.proofs.pairs.strips_whole.Goals as goal

pub returns : goal.returns
returns c = strips_whole
