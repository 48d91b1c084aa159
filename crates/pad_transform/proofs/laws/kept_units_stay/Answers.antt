use Rattle.pad_transform.proofs.Units.{kept_units_stay}
use Rattle.pad_transform.proofs.laws.kept_units_stay.Goals as goal

pub returns : goal.returns
returns c = kept_units_stay
