use Rattle.pad_row.proofs.Steps.{typed_once}
use Rattle.pad_row.proofs.own.typed_once.Goals as goal

pub returns : goal.returns
returns c = typed_once
