use Rattle.pad_row.proofs.Steps.{made_is_sent}
use Rattle.pad_row.proofs.own.made_is_sent.Goals as goal

pub returns : goal.returns
returns c = made_is_sent
