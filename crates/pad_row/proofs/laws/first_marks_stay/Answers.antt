use Rattle.pad_row.proofs.Works.{first_marks_stay}
use Rattle.pad_row.proofs.laws.first_marks_stay.Goals as goal

pub returns : goal.returns
returns c = first_marks_stay
