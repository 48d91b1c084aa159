use Rattle.world_laws.proofs.Telling.{left_spelled}
use Rattle.world_laws.proofs.laws.left_are_spelled.Goals as goal

pub returns : goal.returns
returns c = left_spelled c.contents_read_back.ensures c.acks_read_back.ensures c.heard_keep_channel.ensures
