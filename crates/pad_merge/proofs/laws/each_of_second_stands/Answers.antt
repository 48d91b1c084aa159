use Rattle.pad_merge.proofs.Places.{stands_of_second}
use Rattle.pad_merge.proofs.laws.each_of_second_stands.Goals as goal

pub returns : goal.returns
returns c = stands_of_second
