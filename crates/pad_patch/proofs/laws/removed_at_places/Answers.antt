use Rattle.pad_patch.proofs.Twice.{removed_at_places}
use Rattle.pad_patch.proofs.laws.removed_at_places.Goals as goal

pub returns : goal.returns
returns g c = removed_at_places
