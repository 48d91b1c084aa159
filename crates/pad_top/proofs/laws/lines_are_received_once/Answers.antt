use Rattle.pad_top.proofs.Once.{received_once}
use Rattle.pad_top.proofs.laws.lines_are_received_once.Goals as goal

pub returns : goal.returns
returns c = received_once
