use Rattle.pad_model.proofs.Reports.{order_changes_no_best}
use Rattle.pad_model.proofs.laws.order_changes_no_best.Goals as goal

pub returns : goal.returns
returns c = order_changes_no_best
