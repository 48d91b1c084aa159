use Rattle.pad_transform.proofs.Room.{sums_fit_within}
use Rattle.pad_transform.proofs.laws.sums_fit_within.Goals as goal

pub returns : goal.returns
returns c = sums_fit_within
