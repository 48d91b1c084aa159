use Rattle.pad_patch.proofs.Laid.{laid}
use Rattle.pad_patch.proofs.Kept.{kept_not_removed}
use Rattle.pad_patch.proofs.laws.kept_is_not_removed.Goals as goal

pub returns : goal.returns
returns c = λ patch size place at ordered inside. kept_not_removed patch size place at (laid patch size ordered inside)
