use Rattle.world_laws.proofs.Reading.{acks_back}
use Rattle.world_laws.proofs.laws.acks_read_back.Goals as goal

pub returns : goal.returns
returns c = acks_back
