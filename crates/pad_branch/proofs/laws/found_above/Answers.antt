use Rattle.pad_branch.proofs.Growth.{found_above}
use Rattle.pad_branch.proofs.laws.found_above.Goals as goal

pub returns : goal.returns
returns c = found_above
