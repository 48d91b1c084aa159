use Rattle.pad_top.proofs.Once.{ends_once}
use Rattle.pad_top.proofs.laws.inputs_end_once.Goals as goal

pub returns : goal.returns
returns c = ends_once
