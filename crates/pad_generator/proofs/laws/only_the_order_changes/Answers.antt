use Rattle.pad_generator.proofs.Orders.{only_the_order_changes}
use Rattle.pad_generator.proofs.laws.only_the_order_changes.Goals as goal

pub returns : goal.returns
returns c = only_the_order_changes
