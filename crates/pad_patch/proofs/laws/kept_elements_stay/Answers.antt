use Rattle.pad_patch.proofs.Kept.{kept_element}
use Rattle.pad_patch.proofs.laws.kept_elements_stay.Goals as goal

pub returns : goal.returns
returns g c = kept_element
