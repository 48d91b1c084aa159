-- A live channel has a slot.
use Rattle.std.proofs.Common.{ap}
use Rattle.keeper_table.specs.Table.{channel_in, joined}
use Rattle.hub_keeper.proofs.AllChannels.{live_found, stands_live}
use Rattle.hub_keeper.proofs.hub_keeper.HubKeeperKeep.live_is_loaded.Goals as goal

pub returns : goal.returns
returns g c = λ hub channels disk channel held suspense digits sound kept is.
    let O = g.O.Ledger in let G = g.G.Ledger in
    let found = live_found O.rests G.rests O.opens_as G.opens_as G.doubt O.holds G.holds channel (channel_in hub.keeper.table channel) held suspense disk
    (stands_live O.rests G.rests O.opens_as G.opens_as G.doubt O.holds G.holds hub.keeper.table channels channel digits disk held suspense kept is) in
    (found.0, ap joined found.1)
