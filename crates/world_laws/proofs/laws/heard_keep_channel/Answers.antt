use Rattle.world_laws.proofs.Telling.{keep_channel}
use Rattle.world_laws.proofs.laws.heard_keep_channel.Goals as goal

pub returns : goal.returns
returns c = keep_channel c.channels_stay.ensures
