use Rattle.client_row.proofs.Along.{anywhere}
use Rattle.client_row.proofs.laws.begins_anywhere.Goals as goal

pub returns : goal.returns
returns c = anywhere (record { applies = c.fitting_applies.ensures; long = c.row_is_as_long.ensures })
