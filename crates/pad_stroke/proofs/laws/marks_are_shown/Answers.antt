use Rattle.pad_stroke.proofs.ShownMarks.{marks_are_shown}
use Rattle.pad_stroke.proofs.laws.marks_are_shown.Goals as goal

pub returns : goal.returns
returns c = marks_are_shown
