use Rattle.pad_row.proofs.Works.{stripped_removes_all}
use Rattle.pad_row.proofs.laws.stripped_removes.Goals as goal

pub returns : goal.returns
returns c = stripped_removes_all
