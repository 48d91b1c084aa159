-- An entry is the keeper's, and leaves every other channel as it was.
use Rattle.std.proofs.Common.{◌≡◌, ℕ, List}
use Rattle.disk_volume.specs.Disk.{Disk}
use Rattle.hub_keeper.proofs.AllChannels.{stands_live}
use Rattle.hub_keeper.proofs.Getting.{entries_stay, gets, tables}
use Rattle.hub_keeper.proofs.hub_keeper.HubKeeperKeep.entry_for.Goals as goal

pub entry-requires-clause-made : goal.entry-requires-clause-made
entry-requires-clause-made g c = c.requires.sound.0

pub entry-requires-clause-loaded : goal.entry-requires-clause-loaded
entry-requires-clause-loaded g c = rw c.in-History.is at c.requires.loaded

pub entry-requires-clause-tie : goal.entry-requires-clause-tie
entry-requires-clause-tie g c = λ told.
    let O = g.O.Ledger in let G = g.G.Ledger in let V = g.V.Volume in
    let live = rw c.in-History.is at (c.requires.tie told) in (
      live.held,
      live.suspense,
      stands_live O.rests G.rests O.opens_as G.opens_as G.doubt O.holds G.holds c.args.self.now.keeper.table live.channels c.in-History.channel c.digits-digits.ensures.are (V.disk c.args.volume.now)
          live.held live.suspense live.kept live.is_live,
    )

pub returns-in-History-clause-sound : goal.returns-in-History-clause-sound
returns-in-History-clause-sound g c = (c.entry.ensures.made, c.requires.sound.1)

pub returns-in-History-clause-entries : goal.returns-in-History-clause-entries
returns-in-History-clause-entries g c = rw c.in-History.is (entries_stay c.entry.new.self c.args.self.now.keeper c.in-History.channel c.entry.result c.entry.ensures.unmoved)

pub returns-in-History-clause-got : goal.returns-in-History-clause-got
returns-in-History-clause-got g c = rw c.in-History.is (λ told channels held suspense kept is_live.
    let O = g.O.Ledger in let G = g.G.Ledger in let V = g.V.Volume in
    let old = V.disk c.args.volume.now in let new = V.disk c.entry.new.volume in let channel = c.in-History.channel in
    let before = c.args.self.now.keeper.table in let after = c.entry.new.self.table in
    let digits = c.digits-digits.ensures.are in
    let stands = stands_live O.rests G.rests O.opens_as G.opens_as G.doubt O.holds G.holds before channels channel digits old held suspense kept is_live in
    gets O.rests G.rests O.opens_as G.opens_as G.doubt O.holds G.holds before after channels channel digits old new held suspense c.args.index c.entry.result
    (record {
      kept = kept;
      is_live = is_live;
      disk = c.entry.ensures.disk told;
      entry = c.entry.ensures.entry told held suspense stands;
      stands = c.entry.ensures.stands told held suspense stands;
      same = tables c.entry.new.self c.args.self.now.keeper c.entry.ensures.same;
      full = c.entry.ensures.full;
      sound = c.entry.ensures.sound told;
      others = c.entry.ensures.others;
      size = c.entry.ensures.size;
    }))

pub entry-requires-in-At-clause-made : goal.entry-requires-in-At-clause-made
entry-requires-in-At-clause-made g c = c.requires.sound.0

pub entry-requires-in-At-clause-loaded : goal.entry-requires-in-At-clause-loaded
entry-requires-in-At-clause-loaded g c = rw c.in-At.is at c.requires.loaded

pub entry-requires-in-At-clause-tie : goal.entry-requires-in-At-clause-tie
entry-requires-in-At-clause-tie g c = λ told.
    let O = g.O.Ledger in let G = g.G.Ledger in let V = g.V.Volume in
    let live = rw c.in-At.is at (c.requires.tie told) in (
      live.held,
      live.suspense,
      stands_live O.rests G.rests O.opens_as G.opens_as G.doubt O.holds G.holds c.args.self.now.keeper.table live.channels c.in-At.channel c.digits-digits-in-At.ensures.are (V.disk c.args.volume.now)
          live.held live.suspense live.kept live.is_live,
    )

pub returns-in-At-clause-sound : goal.returns-in-At-clause-sound
returns-in-At-clause-sound g c = (c.entry-in-At.ensures.made, c.requires.sound.1)

pub returns-in-At-clause-entries : goal.returns-in-At-clause-entries
returns-in-At-clause-entries g c = rw c.in-At.is (entries_stay c.entry-in-At.new.self c.args.self.now.keeper c.in-At.channel c.entry-in-At.result c.entry-in-At.ensures.unmoved)

pub returns-in-At-clause-got : goal.returns-in-At-clause-got
returns-in-At-clause-got g c = rw c.in-At.is (λ told channels held suspense kept is_live.
    let O = g.O.Ledger in let G = g.G.Ledger in let V = g.V.Volume in
    let old = V.disk c.args.volume.now in let new = V.disk c.entry-in-At.new.volume in let channel = c.in-At.channel in
    let before = c.args.self.now.keeper.table in let after = c.entry-in-At.new.self.table in
    let digits = c.digits-digits-in-At.ensures.are in
    let stands = stands_live O.rests G.rests O.opens_as G.opens_as G.doubt O.holds G.holds before channels channel digits old held suspense kept is_live in
    gets O.rests G.rests O.opens_as G.opens_as G.doubt O.holds G.holds before after channels channel digits old new held suspense c.args.index c.entry-in-At.result
    (record {
      kept = kept;
      is_live = is_live;
      disk = c.entry-in-At.ensures.disk told;
      entry = c.entry-in-At.ensures.entry told held suspense stands;
      stands = c.entry-in-At.ensures.stands told held suspense stands;
      same = tables c.entry-in-At.new.self c.args.self.now.keeper c.entry-in-At.ensures.same;
      full = c.entry-in-At.ensures.full;
      sound = c.entry-in-At.ensures.sound told;
      others = c.entry-in-At.ensures.others;
      size = c.entry-in-At.ensures.size;
    }))
