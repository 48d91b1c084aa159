use Rattle.pad_model.proofs.OneBest.{one_best}
use Rattle.pad_model.proofs.laws.at_most_one_best.Goals as goal

pub returns : goal.returns
returns c = one_best
