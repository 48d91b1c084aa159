use Rattle.pad_row.proofs.TypedUnits.{turn_typed}
use Rattle.pad_row.proofs.pairs.turn_typed.Goals as goal

pub returns : goal.returns
returns c = turn_typed
