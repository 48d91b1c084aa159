use Rattle.pad_stroke.proofs.MarkLaws.{second_marks_stay}
use Rattle.pad_stroke.proofs.laws.second_marks_stay.Goals as goal

pub returns : goal.returns
returns c = second_marks_stay
