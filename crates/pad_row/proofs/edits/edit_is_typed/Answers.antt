use Rattle.pad_row.proofs.EditSteps.{edit_is_typed}
use Rattle.pad_row.proofs.edits.edit_is_typed.Goals as goal

pub returns : goal.returns
returns c = edit_is_typed
