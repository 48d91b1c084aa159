use Rattle.pad_row.proofs.Works.{removed_marks}
use Rattle.pad_row.proofs.laws.removed_marks.Goals as goal

pub returns : goal.returns
returns c = removed_marks
