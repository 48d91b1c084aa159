use Rattle.pad_row.proofs.Strips.{stripped_whole}
use Rattle.pad_row.proofs.pairs.stripped_whole.Goals as goal

pub returns : goal.returns
returns c = stripped_whole
