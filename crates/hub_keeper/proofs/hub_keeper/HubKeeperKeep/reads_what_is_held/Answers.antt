-- The logs of a live channel read as its list.
use Rattle.std.proofs.Common.{ap}
use Rattle.disk_volume.specs.Disk.{reads}
use Rattle.keeper_table.specs.Files.{file_one, file_two}
use Rattle.keeper_table.specs.Table.{joined}
use Rattle.keeper_state.specs.Slot.{IsLogOf}
use Rattle.log_format.specs.declared.form.Form.TheVariants.{One, Two}
use Rattle.hub_keeper.proofs.AllChannels.{stands_live}
use Rattle.hub_keeper.proofs.Reading.{named, reads_held}
use Rattle.hub_keeper.proofs.hub_keeper.HubKeeperKeep.reads_what_is_held.Goals as goal

pub returns : goal.returns
returns g c = λ hub channels disk channel held suspense digits sound kept is.
    let O = g.O.Ledger in let G = g.G.Ledger in
    let stands = stands_live O.rests G.rests O.opens_as G.opens_as G.doubt O.holds G.holds hub.keeper.table channels channel digits disk held suspense kept is in
    reads_held (O.opens_as One (file_one channel)) (G.opens_as Two (file_two channel)) (G.doubt Two (file_two channel)) O.holds G.holds
    (IsLogOf O.name O.form_of O.live (file_one channel) One) (IsLogOf G.name G.form_of G.live (file_two channel) Two) stands.0.logs held suspense disk
    (λ log payloads made holds. named O.opens_as O.name O.form_of One (file_one channel) (reads disk) log payloads made.0 made.1 (g.met.O.Ledger.holds_reads log payloads disk holds))
    (λ log payloads made holds. named G.opens_as G.name G.form_of Two (file_two channel) (reads disk) log payloads made.0 made.1 (g.met.G.Ledger.holds_reads log payloads disk holds))
    (sound.0.slots channel stands.0 (ap joined stands.1)).made stands.2.live
