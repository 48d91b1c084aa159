use Rattle.keeper_table.specs.Files.{file_two}
use Rattle.keeper_table.proofs.Begins.{no_shorter}
use Rattle.keeper_table.proofs.laws.forms_share_no_file.Goals as goal

pub returns : goal.returns
returns g c channel file owned same = no_shorter channel file (g.met.G.Ledger.owned_named (file_two channel) file owned) same
