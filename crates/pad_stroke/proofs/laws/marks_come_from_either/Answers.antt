use Rattle.pad_stroke.proofs.MarkLaws.{marks_come_from_either}
use Rattle.pad_stroke.proofs.laws.marks_come_from_either.Goals as goal

pub returns : goal.returns
returns c = marks_come_from_either
