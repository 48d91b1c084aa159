use Rattle.pad_stroke.proofs.MarkLaws.{stripped_marks}
use Rattle.pad_stroke.proofs.laws.stripped_marks.Goals as goal

pub returns : goal.returns
returns c = stripped_marks
