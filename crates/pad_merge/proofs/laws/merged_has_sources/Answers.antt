use Rattle.pad_merge.proofs.Fixed.{sources_of-merged}
use Rattle.pad_merge.proofs.laws.merged_has_sources.Goals as goal

pub returns : goal.returns
returns c = sources_of-merged
