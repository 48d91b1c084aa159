use Rattle.pad_merge.proofs.Removals.{first_stands}
use Rattle.pad_merge.proofs.laws.first_stands_unless_removed.Goals as goal

pub returns : goal.returns
returns g c = first_stands
