use Rattle.pad_row.proofs.Works.{moved_alike}
use Rattle.pad_row.proofs.laws.moved_alike.Goals as goal

pub returns : goal.returns
returns c = moved_alike
