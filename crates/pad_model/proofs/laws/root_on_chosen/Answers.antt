use Rattle.pad_model.proofs.Chosen.{root_on_chosen}
use Rattle.pad_model.proofs.laws.root_on_chosen.Goals as goal

pub returns : goal.returns
returns c = root_on_chosen
