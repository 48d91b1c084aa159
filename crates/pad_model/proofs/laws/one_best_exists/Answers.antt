use Rattle.pad_model.proofs.Exists.{some_is_best}
use Rattle.pad_model.proofs.laws.one_best_exists.Goals as goal

pub returns : goal.returns
returns c = some_is_best
