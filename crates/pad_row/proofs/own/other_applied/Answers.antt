use Rattle.pad_row.proofs.Steps.{other_applied}
use Rattle.pad_row.proofs.own.other_applied.Goals as goal

pub returns : goal.returns
returns c = other_applied
