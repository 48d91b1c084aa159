use Rattle.pad_transform.proofs.Cases.{sums_fit}
use Rattle.pad_transform.proofs.laws.sums_fit_with_room.Goals as goal

pub returns : goal.returns
returns c = sums_fit
