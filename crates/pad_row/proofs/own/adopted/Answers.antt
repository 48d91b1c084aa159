use Rattle.pad_row.proofs.Steps.{adopted}
use Rattle.pad_row.proofs.own.adopted.Goals as goal

pub returns : goal.returns
returns c = adopted
