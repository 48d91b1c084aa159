use Rattle.pad_merge.proofs.Pairs.{CanApply-merged}
use Rattle.pad_merge.proofs.laws.merged_applies.Goals as goal

pub returns : goal.returns
returns c = CanApply-merged
