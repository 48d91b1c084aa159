use Rattle.pad_patch.proofs.Copies.{length-text_after}
use Rattle.pad_patch.proofs.laws.length_is_counted.Goals as goal

pub returns : goal.returns
returns c = length-text_after
