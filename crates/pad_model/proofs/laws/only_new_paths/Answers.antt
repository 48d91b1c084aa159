use Rattle.pad_model.proofs.Roots.{only_new_paths}
use Rattle.pad_model.proofs.laws.only_new_paths.Goals as goal

pub returns : goal.returns
returns c = only_new_paths
