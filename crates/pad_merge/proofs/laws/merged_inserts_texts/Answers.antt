use Rattle.pad_merge.proofs.Whole.{texts-merged}
use Rattle.pad_merge.proofs.laws.merged_inserts_texts.Goals as goal

pub returns : goal.returns
returns c = texts-merged
