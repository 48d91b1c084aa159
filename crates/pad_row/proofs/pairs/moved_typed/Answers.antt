use Rattle.pad_row.proofs.Strips.{moved_typed}
use Rattle.pad_row.proofs.pairs.moved_typed.Goals as goal

pub returns : goal.returns
returns c = moved_typed
