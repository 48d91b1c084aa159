use Rattle.pad_merge.proofs.Places.{stands_once}
use Rattle.pad_merge.proofs.laws.no_origin_twice.Goals as goal

pub returns : goal.returns
returns c = stands_once
