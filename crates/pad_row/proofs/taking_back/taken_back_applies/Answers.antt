use Rattle.pad_row.proofs.Backs.{taken_back_applies}
use Rattle.pad_row.proofs.taking_back.taken_back_applies.Goals as goal

pub returns : goal.returns
returns c = taken_back_applies
