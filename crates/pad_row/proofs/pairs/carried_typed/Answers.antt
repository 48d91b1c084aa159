use Rattle.pad_row.proofs.TypedUnits.{carried_typed}
use Rattle.pad_row.proofs.pairs.carried_typed.Goals as goal

pub returns : goal.returns
returns c = carried_typed
