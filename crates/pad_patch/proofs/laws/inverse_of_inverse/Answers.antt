use Rattle.pad_patch.proofs.Twice.{inverse_of_inverse}
use Rattle.pad_patch.proofs.laws.inverse_of_inverse.Goals as goal

pub returns : goal.returns
returns c = inverse_of_inverse
