use Rattle.pad_merge.proofs.Labels.{patched-merged}
use Rattle.pad_merge.proofs.laws.merged_copies.Goals as goal

pub returns : goal.returns
returns g c = patched-merged
