use Rattle.pad_row.proofs.Steps.{own_applied}
use Rattle.pad_row.proofs.own.own_applied.Goals as goal

pub returns : goal.returns
returns c = own_applied
