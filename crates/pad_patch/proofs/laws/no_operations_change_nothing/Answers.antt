use Rattle.pad_patch.proofs.Copies.{text_after-none}
use Rattle.pad_patch.proofs.laws.no_operations_change_nothing.Goals as goal

pub returns : goal.returns
returns c = text_after-none
