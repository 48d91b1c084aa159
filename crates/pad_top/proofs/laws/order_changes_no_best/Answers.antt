use Rattle.pad_top.proofs.Order.{order_changes_no_best}
use Rattle.pad_top.proofs.laws.order_changes_no_best.Goals as goal

pub returns : goal.returns
returns c = order_changes_no_best
