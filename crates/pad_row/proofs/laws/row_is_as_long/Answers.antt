use Rattle.pad_row.proofs.Works.{row_is_as_long}
use Rattle.pad_row.proofs.laws.row_is_as_long.Goals as goal

pub returns : goal.returns
returns c = row_is_as_long
