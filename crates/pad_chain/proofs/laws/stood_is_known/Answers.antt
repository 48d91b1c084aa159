use Rattle.pad_chain.proofs.Knowing.{stood_known}
use Rattle.pad_chain.proofs.laws.stood_is_known.Goals as goal

pub returns : goal.returns
returns c = stood_known
