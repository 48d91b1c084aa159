use Rattle.pad_row.proofs.Works.{carried_removes_kept}
use Rattle.pad_row.proofs.laws.carried_removes_kept.Goals as goal

pub returns : goal.returns
returns c = carried_removes_kept
