use Rattle.pad_merge.proofs.Readback.{merged-empty_first}
use Rattle.pad_merge.proofs.laws.empty_first.Goals as goal

pub returns : goal.returns
returns c = merged-empty_first
