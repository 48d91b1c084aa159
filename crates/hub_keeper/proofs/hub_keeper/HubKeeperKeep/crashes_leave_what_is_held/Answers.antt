-- The keeper's law, for each channel.
use Rattle.keeper_table.specs.Table.{channel_in}
use Rattle.hub_keeper.proofs.AllChannels.{if_slot}
use Rattle.hub_keeper.proofs.hub_keeper.HubKeeperKeep.crashes_leave_what_is_held.Goals as goal

pub returns : goal.returns
returns g c = λ hub channels disk sound kept channel digits held suspense has.
    c.channels_keep_their_lists.ensures channel (channel_in hub.keeper.table channel) (channels.at channel) disk held suspense
    (if_slot (channel_in hub.keeper.table channel) _ (sound.0.slots channel)) (kept.each channel digits) has
