use Rattle.pad_row.proofs.Backs.{inverse_merges_back}
use Rattle.pad_row.proofs.taking_back.inverse_merges_back.Goals as goal

pub returns : goal.returns
returns c = inverse_merges_back
