use Rattle.pad_generator.proofs.Orders.{as_many_as_asked}
use Rattle.pad_generator.proofs.laws.as_many_as_asked.Goals as goal

pub returns : goal.returns
returns c = as_many_as_asked
