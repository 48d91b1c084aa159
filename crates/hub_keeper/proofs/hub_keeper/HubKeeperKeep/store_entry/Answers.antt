-- A store is the keeper's, and leaves every other channel as it was.
use Rattle.std.proofs.Common.{◌≡◌, ℕ, List, [], ◌∷◌}
use Rattle.disk_volume.specs.Disk.{Disk}
use Rattle.keeper_entry.specs.Entry.{payload_of}
use Rattle.keeper_table.specs.Table.{channel_in}
use Rattle.hub_keeper.proofs.AllChannels.{differ, if_slot}
use Rattle.hub_keeper.proofs.Asking.{stored}
use Rattle.hub_keeper.proofs.Known.{loaded_then}
use Rattle.hub_keeper.proofs.hub_keeper.HubKeeperKeep.store_entry.Goals as goal

pub store-requires-clause-apart : goal.store-requires-clause-apart
store-requires-clause-apart g c = c.requires.sound.1 c.args.channel.now

pub store-requires-clause-made : goal.store-requires-clause-made
store-requires-clause-made g c = c.requires.sound.0

pub store-requires-clause-tie : goal.store-requires-clause-tie
store-requires-clause-tie g c = λ told.
    let tie = c.requires.tie told in (tie.0.at c.args.channel.now, tie.1.each c.args.channel.now c.digits-digits.ensures.are)

pub returns-clause-sound : goal.returns-clause-sound
returns-clause-sound g c = (c.store.ensures.made, c.requires.sound.1)

pub returns-clause-known : goal.returns-clause-known
returns-clause-known g c = loaded_then c.store.new.self.table c.args.channel.now c.store.result c.store.ensures.known

pub returns-clause-stored : goal.returns-clause-stored
returns-clause-stored g c = λ told channels kept.
    let O = g.O.Ledger in let G = g.G.Ledger in let V = g.V.Volume in
    let old = V.disk c.args.volume.now in let new = V.disk c.store.new.volume in let channel = c.args.channel.now in
    let before = c.args.self.now.keeper.table in let after = c.store.new.self.table in
    let digits = c.digits-digits.ensures.are in
    let stores = rw c.as_str.ensures at (c.store.ensures.stored told) in
    stored O.rests G.rests O.opens_as G.opens_as G.doubt O.damage G.damage O.holds G.holds O.owns G.owns before after channels channel digits old new
    (payload_of c.args.moment c.args.sender.now c.args.content.now ∷ []) c.store.result
    (record {
      kept = kept;
      table = c.store.ensures.table;
      others = λ other theirs apart. c.other_channels_stand.ensures channel other (channel_in before other) (channels.at other) old new digits theirs (differ channel other apart)
          (g.met.V.Volume.as_it_reads c.args.volume.now told) stores.files (if_slot (channel_in before other) _ (c.requires.sound.0.slots other)) (kept.each other theirs);
      law = λ next held suspense stands has. c.channels_keep_their_lists.ensures channel (channel_in after channel) next new held suspense
          (if_slot (channel_in after channel) _ (c.store.ensures.made.slots channel)) stands has;
    })
    (c.requires.sound.1 channel) stores
