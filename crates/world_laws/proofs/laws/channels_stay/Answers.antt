use Rattle.world_laws.proofs.Staying.{channels_stay}
use Rattle.world_laws.proofs.laws.channels_stay.Goals as goal

pub returns : goal.returns
returns c = channels_stay
