use Rattle.pad_row.proofs.EditSteps.{typed_whole}
use Rattle.pad_row.proofs.edits.typed_whole.Goals as goal

pub returns : goal.returns
returns c = typed_whole
