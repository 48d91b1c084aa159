-- A question is the keeper's, and leaves every other channel as it was.
use Rattle.std.proofs.Common.{◌≡◌, ℕ, List, IsOk}
use Rattle.disk_volume.specs.Disk.{Disk}
use Rattle.disk_volume.specs.Lemmas.Others.{syncs_grew}
use Rattle.log_format.specs.declared.form.TheConstants.{MOST_ENTRIES_ONE}
use Rattle.keeper_log.specs.Keeper.{HasEntry}
use Rattle.keeper_table.specs.Span.{span_in, tail_in}
use Rattle.keeper_table.specs.Table.{channel_in, slot_in}
use Rattle.hub_keeper.proofs.AllChannels.{differ, if_slot}
use Rattle.hub_keeper.proofs.Asking.{asked}
use Rattle.hub_keeper.proofs.Known.{loaded_then, of_loaded, small, few_entries}
use Rattle.hub_keeper.proofs.hub_keeper.HubKeeperKeep.find_span.Goals as goal

pub span-requires-clause-apart : goal.span-requires-clause-apart
span-requires-clause-apart g c = c.requires.sound.1 c.in-History.channel

pub span-requires-clause-made : goal.span-requires-clause-made
span-requires-clause-made g c = c.requires.sound.0

pub returns-in-History-clause-sound : goal.returns-in-History-clause-sound
returns-in-History-clause-sound g c = (c.span.ensures.made, c.requires.sound.1)

pub returns-in-History-clause-known : goal.returns-in-History-clause-known
returns-in-History-clause-known g c = rw c.in-History.is (loaded_then c.span.new.self.table c.in-History.channel c.span.result c.span.ensures.known)

pub returns-in-History-clause-loaded : goal.returns-in-History-clause-loaded
returns-in-History-clause-loaded g c = rw c.in-History.is (λ is. of_loaded (slot_in c.args.self.now.keeper.table c.in-History.channel) (IsOk c.span.result) is c.span.ensures.loaded)

pub returns-in-History-clause-entries : goal.returns-in-History-clause-entries
returns-in-History-clause-entries g c = rw c.in-History.is (small c.span.result (HasEntry c.span.new.self.table c.in-History.channel) MOST_ENTRIES_ONE c.span.ensures.entries c.span.ensures.few)

pub returns-in-History-clause-few : goal.returns-in-History-clause-few
returns-in-History-clause-few g c = λ start total. few_entries c.span.result MOST_ENTRIES_ONE start total c.span.ensures.few

pub returns-in-History-clause-spanned : goal.returns-in-History-clause-spanned
returns-in-History-clause-spanned g c = rw c.in-History.is (λ told channels kept.
    let O = g.O.Ledger in let G = g.G.Ledger in let V = g.V.Volume in
    let old = V.disk c.args.volume.now in let new = V.disk c.span.new.volume in let channel = c.in-History.channel in
    let before = c.args.self.now.keeper.table in let after = c.span.new.self.table in
    let digits = c.digits-digits.ensures.are in
    let asks = c.span.ensures.told told in
    asked O.rests G.rests O.opens_as G.opens_as G.doubt O.damage G.damage O.holds G.holds O.owns G.owns before after channels channel digits old new
    (λ held span. span ≡ span_in held c.in-History.from) c.span.result
    (record {
      kept = kept;
      table = c.span.ensures.table;
      others = λ other theirs apart. c.other_channels_stand.ensures channel other (channel_in before other) (channels.at other) old new digits theirs (differ channel other apart)
          (g.met.V.Volume.as_it_reads c.args.volume.now told) (syncs_grew new asks.syncs) (if_slot (channel_in before other) _ (c.requires.sound.0.slots other)) (kept.each other theirs);
      law = λ next held suspense stands has. c.channels_keep_their_lists.ensures channel (channel_in after channel) next new held suspense
          (if_slot (channel_in after channel) _ (c.span.ensures.made.slots channel)) stands has;
    }) asks)

pub tail-requires-clause-apart : goal.tail-requires-clause-apart
tail-requires-clause-apart g c = c.requires.sound.1 c.in-At.channel

pub tail-requires-clause-made : goal.tail-requires-clause-made
tail-requires-clause-made g c = c.requires.sound.0

pub returns-in-At-clause-sound : goal.returns-in-At-clause-sound
returns-in-At-clause-sound g c = (c.tail.ensures.made, c.requires.sound.1)

pub returns-in-At-clause-known : goal.returns-in-At-clause-known
returns-in-At-clause-known g c = rw c.in-At.is (loaded_then c.tail.new.self.table c.in-At.channel c.tail.result c.tail.ensures.known)

pub returns-in-At-clause-loaded : goal.returns-in-At-clause-loaded
returns-in-At-clause-loaded g c = rw c.in-At.is (λ is. of_loaded (slot_in c.args.self.now.keeper.table c.in-At.channel) (IsOk c.tail.result) is c.tail.ensures.loaded)

pub returns-in-At-clause-entries : goal.returns-in-At-clause-entries
returns-in-At-clause-entries g c = rw c.in-At.is (small c.tail.result (HasEntry c.tail.new.self.table c.in-At.channel) MOST_ENTRIES_ONE c.tail.ensures.entries c.tail.ensures.few)

pub returns-in-At-clause-few : goal.returns-in-At-clause-few
returns-in-At-clause-few g c = λ start total. few_entries c.tail.result MOST_ENTRIES_ONE start total c.tail.ensures.few

pub returns-in-At-clause-spanned : goal.returns-in-At-clause-spanned
returns-in-At-clause-spanned g c = rw c.in-At.is (λ told channels kept.
    let O = g.O.Ledger in let G = g.G.Ledger in let V = g.V.Volume in
    let old = V.disk c.args.volume.now in let new = V.disk c.tail.new.volume in let channel = c.in-At.channel in
    let before = c.args.self.now.keeper.table in let after = c.tail.new.self.table in
    let digits = c.digits-digits-in-At.ensures.are in
    let asks = rw c.from.ensures at (c.tail.ensures.told told) in
    asked O.rests G.rests O.opens_as G.opens_as G.doubt O.damage G.damage O.holds G.holds O.owns G.owns before after channels channel digits old new
    (λ held span. span ≡ tail_in held c.in-At.index) c.tail.result
    (record {
      kept = kept;
      table = c.tail.ensures.table;
      others = λ other theirs apart. c.other_channels_stand.ensures channel other (channel_in before other) (channels.at other) old new digits theirs (differ channel other apart)
          (g.met.V.Volume.as_it_reads c.args.volume.now told) (syncs_grew new asks.syncs) (if_slot (channel_in before other) _ (c.requires.sound.0.slots other)) (kept.each other theirs);
      law = λ next held suspense stands has. c.channels_keep_their_lists.ensures channel (channel_in after channel) next new held suspense
          (if_slot (channel_in after channel) _ (c.tail.ensures.made.slots channel)) stands has;
    }) asks)
