use Rattle.pad_row.proofs.Works.{carried_removes_row}
use Rattle.pad_row.proofs.laws.carried_removes.Goals as goal

pub returns : goal.returns
returns c = carried_removes_row
