use Rattle.pad_row.proofs.EditSteps.{marks_of_once}
use Rattle.pad_row.proofs.edits.marks_of_once.Goals as goal

pub returns : goal.returns
returns c = marks_of_once
