use Rattle.pad_row.proofs.Steps.{edited}
use Rattle.pad_row.proofs.own.own_edited.Goals as goal

pub returns : goal.returns
returns c = edited
