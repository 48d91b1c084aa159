use Rattle.pad_model.proofs.Overtaking.{few_overtake}
use Rattle.pad_model.proofs.laws.few_overtake.Goals as goal

pub returns : goal.returns
returns c = few_overtake
