use Rattle.pad_row.proofs.EditSteps.{edit_typed}
use Rattle.pad_row.proofs.edits.edit_typed.Goals as goal

pub returns : goal.returns
returns c = edit_typed
