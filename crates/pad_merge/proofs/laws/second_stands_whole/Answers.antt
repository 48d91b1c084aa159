use Rattle.pad_merge.proofs.Places.{seconds_all}
use Rattle.pad_merge.proofs.laws.second_stands_whole.Goals as goal

pub returns : goal.returns
returns c = seconds_all
