use Rattle.pad_row.proofs.Works.{row_marks}
use Rattle.pad_row.proofs.laws.row_marks.Goals as goal

pub returns : goal.returns
returns c = row_marks
