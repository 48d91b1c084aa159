use Rattle.pad_row.proofs.Works.{turn_removes_just}
use Rattle.pad_row.proofs.laws.turn_removes_just.Goals as goal

pub returns : goal.returns
returns c = turn_removes_just
