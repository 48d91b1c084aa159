use Rattle.pad_patch.proofs.Inverses.{length-inverse}
use Rattle.pad_patch.proofs.laws.one_operation_each.Goals as goal

pub returns : goal.returns
returns c = length-inverse
