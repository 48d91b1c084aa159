use Rattle.client_row.proofs.Along.{follows}
use Rattle.client_row.proofs.laws.follows_moves.Goals as goal

pub returns : goal.returns
returns c = follows (record { applies = c.fitting_applies.ensures; long = c.row_is_as_long.ensures }) c.inverse_gives_lists_back.ensures
