use Rattle.pad_model.proofs.Chosen.{stays_best}
use Rattle.pad_model.proofs.laws.stays_best.Goals as goal

pub returns : goal.returns
returns c = stays_best
