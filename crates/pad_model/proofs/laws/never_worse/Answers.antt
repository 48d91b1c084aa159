use Rattle.pad_model.proofs.Chosen.{never_worse}
use Rattle.pad_model.proofs.laws.never_worse.Goals as goal

pub returns : goal.returns
returns c = never_worse
