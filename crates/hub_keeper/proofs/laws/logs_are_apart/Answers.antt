-- A log owns the file of its name.
use Rattle.hub_keeper.proofs.laws.logs_are_apart.Goals as goal

pub returns : goal.returns
returns g c = λ channel file two one. c.forms_share_no_file.ensures channel file two one
