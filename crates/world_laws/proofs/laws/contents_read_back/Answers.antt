use Rattle.world_laws.proofs.Reading.{contents_back}
use Rattle.world_laws.proofs.laws.contents_read_back.Goals as goal

pub returns : goal.returns
returns c = contents_back
