use Rattle.pad_row.proofs.Steps.{other_reverted}
use Rattle.pad_row.proofs.own.other_reverted.Goals as goal

pub returns : goal.returns
returns c = other_reverted
