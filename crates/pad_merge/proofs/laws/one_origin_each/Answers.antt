use Rattle.pad_merge.proofs.Named.{length-origins}
use Rattle.pad_merge.proofs.laws.one_origin_each.Goals as goal

pub returns : goal.returns
returns c = length-origins
