use Rattle.pad_patch.proofs.Laid.{laid}
use Rattle.pad_patch.proofs.Kept.{removed_or_kept}
use Rattle.pad_patch.proofs.laws.removed_or_kept.Goals as goal

pub returns : goal.returns
returns c = λ patch size place ordered inside. removed_or_kept patch size place (laid patch size ordered inside)
