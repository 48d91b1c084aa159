use Rattle.pad_model.proofs.OneBest.{one_height}
use Rattle.pad_model.proofs.laws.one_linked_height.Goals as goal

pub returns : goal.returns
returns c = one_height
