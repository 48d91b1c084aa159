use Rattle.std.proofs.Common.{◌≡◌, ◌∙◌, sym}
use Rattle.keeper_table.proofs.Begins.{of_channel}
use Rattle.keeper_table.proofs.laws.channels_share_no_file.Goals as goal

pub returns : goal.returns
returns g c channel other file digits others one two =
    sym (of_channel g.O.Ledger.owns g.G.Ledger.owns channel file digits.as_many g.met.O.Ledger.owned_named g.met.G.Ledger.owned_named one)
    ∙ of_channel g.O.Ledger.owns g.G.Ledger.owns other file others.as_many g.met.O.Ledger.owned_named g.met.G.Ledger.owned_named two
