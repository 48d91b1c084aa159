use Rattle.pad_model.proofs.Roots.{best_through_its_root}
use Rattle.pad_model.proofs.laws.best_through_its_root.Goals as goal

pub returns : goal.returns
returns c = best_through_its_root
