use Rattle.pad_merge.proofs.Readback.{merged-empty_second}
use Rattle.pad_merge.proofs.laws.empty_second.Goals as goal

pub returns : goal.returns
returns c = merged-empty_second
