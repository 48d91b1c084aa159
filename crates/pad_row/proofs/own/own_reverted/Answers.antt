use Rattle.pad_row.proofs.Steps.{own_reverted}
use Rattle.pad_row.proofs.own.own_reverted.Goals as goal

pub returns : goal.returns
returns c = own_reverted
