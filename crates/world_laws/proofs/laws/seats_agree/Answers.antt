use Rattle.world_laws.proofs.Telling.{seats_agree}
use Rattle.world_laws.proofs.laws.seats_agree.Goals as goal

pub returns : goal.returns
returns c = seats_agree c.caught_up_agree.ensures c.taken_are_entries.ensures c.left_are_spelled.ensures
