use Rattle.pad_row.proofs.EditSteps.{edit_row}
use Rattle.pad_row.proofs.edits.edit_row.Goals as goal

pub returns : goal.returns
returns c = edit_row
