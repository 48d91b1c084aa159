use Rattle.pad_model.proofs.Adoption.{checkpoints_can_be_adopted}
use Rattle.pad_model.proofs.laws.checkpoints_can_be_adopted.Goals as goal

pub returns : goal.returns
returns c = checkpoints_can_be_adopted
