use Rattle.pad_row.proofs.EditSteps.{marks_of_stroke}
use Rattle.pad_row.proofs.edits.marks_of_stroke.Goals as goal

pub returns : goal.returns
returns c = marks_of_stroke
