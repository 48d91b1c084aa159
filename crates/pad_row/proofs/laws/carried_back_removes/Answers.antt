use Rattle.pad_row.proofs.Works.{carried_back_removes}
use Rattle.pad_row.proofs.laws.carried_back_removes.Goals as goal

pub returns : goal.returns
returns c = carried_back_removes
