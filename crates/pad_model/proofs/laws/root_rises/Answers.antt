use Rattle.pad_model.proofs.Roots.{root_rises}
use Rattle.pad_model.proofs.laws.root_rises.Goals as goal

pub returns : goal.returns
returns c = root_rises
