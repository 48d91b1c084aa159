use Rattle.pad_patch.proofs.Kept.{kept_or_new}
use Rattle.pad_patch.proofs.laws.kept_or_new.Goals as goal

pub returns : goal.returns
returns g c = kept_or_new
