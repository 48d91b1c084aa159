use Rattle.pad_patch.proofs.Copies.{CanApply-Fits}
use Rattle.pad_patch.proofs.laws.fitting_applies.Goals as goal

pub returns : goal.returns
returns c = CanApply-Fits
