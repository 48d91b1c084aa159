use Rattle.pad_patch.proofs.Inverses.{CanApply-inverse_all}
use Rattle.pad_patch.proofs.laws.inverse_applies.Goals as goal

pub returns : goal.returns
returns c = CanApply-inverse_all
