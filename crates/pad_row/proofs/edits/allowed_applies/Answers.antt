use Rattle.pad_row.proofs.EditSteps.{allowed_applies}
use Rattle.pad_row.proofs.edits.allowed_applies.Goals as goal

pub returns : goal.returns
returns c = allowed_applies
