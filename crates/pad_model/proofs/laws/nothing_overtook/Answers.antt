use Rattle.pad_model.proofs.Chosen.{nothing_overtook}
use Rattle.pad_model.proofs.laws.nothing_overtook.Goals as goal

pub returns : goal.returns
returns c = nothing_overtook
