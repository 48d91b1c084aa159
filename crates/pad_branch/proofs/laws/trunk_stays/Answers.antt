use Rattle.pad_branch.proofs.Rising.{trunk_stays}
use Rattle.pad_branch.proofs.laws.trunk_stays.Goals as goal

pub returns : goal.returns
returns c = trunk_stays
