use Rattle.pad_model.proofs.Roots.{best_at_base}
use Rattle.pad_model.proofs.laws.best_at_base.Goals as goal

pub returns : goal.returns
returns c = best_at_base
