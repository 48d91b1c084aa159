use Rattle.pad_row.proofs.Steps.{nothing_typed}
use Rattle.pad_row.proofs.own.nothing_typed.Goals as goal

pub returns : goal.returns
returns c = nothing_typed
