use Rattle.pad_merge.proofs.Applied.{CanMerge-CanApply}
use Rattle.pad_merge.proofs.laws.applied_patches_merge.Goals as goal

pub returns : goal.returns
returns c = CanMerge-CanApply
