use Rattle.pad_model.proofs.Stays.{stays_chosen}
use Rattle.pad_model.proofs.laws.stays_chosen.Goals as goal

pub returns : goal.returns
returns c = stays_chosen
