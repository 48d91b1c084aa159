use Rattle.pad_stroke.proofs.MarkLaws.{marks_stand_once}
use Rattle.pad_stroke.proofs.laws.marks_stand_once.Goals as goal

pub returns : goal.returns
returns c = marks_stand_once
