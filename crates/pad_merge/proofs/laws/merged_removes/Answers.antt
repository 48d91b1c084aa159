use Rattle.pad_merge.proofs.Removals.{merged_removes}
use Rattle.pad_merge.proofs.laws.merged_removes.Goals as goal

pub returns : goal.returns
returns c = merged_removes
