use Rattle.pad_merge.proofs.Fixed.{normal_fixed}
use Rattle.pad_merge.proofs.laws.sources_fix_normal.Goals as goal

pub returns : goal.returns
returns c = normal_fixed
