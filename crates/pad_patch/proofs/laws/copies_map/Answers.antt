use Rattle.pad_patch.proofs.Patched.{map-patched}
use Rattle.pad_patch.proofs.laws.copies_map.Goals as goal

pub returns : goal.returns
returns g c = map-patched
