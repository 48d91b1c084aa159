use Rattle.pad_row.proofs.EditSteps.{others_stay_typed}
use Rattle.pad_row.proofs.edits.others_stay_typed.Goals as goal

pub returns : goal.returns
returns c = others_stay_typed
