use Rattle.pad_row.proofs.TypedUnits.{stripped_typed}
use Rattle.pad_row.proofs.pairs.stripped_typed.Goals as goal

pub returns : goal.returns
returns c = stripped_typed
