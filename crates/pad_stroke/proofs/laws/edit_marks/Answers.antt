use Rattle.pad_stroke.proofs.ShownMarks.{edit_marks}
use Rattle.pad_stroke.proofs.laws.edit_marks.Goals as goal

pub returns : goal.returns
returns c = edit_marks
