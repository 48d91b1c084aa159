use Rattle.std.proofs.Common.{◌≡◌, ◌∙◌, ℕ, ◌+◌, Some, None, arith, refl, sym, ap}
use Rattle.disk_volume.specs.Disk.{reads}
use Rattle.disk_volume.specs.Moments.{no_sync}
use Rattle.disk_volume.specs.Lemmas.Since.{now_alone}
use Rattle.keeper_state.specs.Slot.{IsSlotFor}
use Rattle.keeper_state.specs.State.{Finds}
use Rattle.keeper_table.specs.Table.{channel_in, slot_in, newly, size_of}
use Rattle.keeper_log.proofs.Refusals.{ok_is_none}
use Rattle.keeper_log.proofs.Standing.{loaded_is}
use Rattle.keeper_log.proofs.Tables.{keeper_on, loaded_fits, same_unloaded, taken_is, taken_none, too_many_on}
use Rattle.keeper_log.proofs.keeper.Keeper.take_slot.Goals as goal

pub returns-in-Some-clause-again : goal.returns-in-Some-clause-again
returns-in-Some-clause-again g c = taken_is (channel_in c.args.self.now.table c.args.channel.now) (channel_in c.take.new.self c.args.channel.now) c.in-Some.slot c.in-Some.ensures.taken c.take.ensures.left c.take.ensures.again

pub returns-in-Some-clause-takes : goal.returns-in-Some-clause-takes
returns-in-Some-clause-takes g c = λ told.
    let O = g.O.Ledger in let G = g.G.Ledger in let table = c.args.self.now.table in let channel = c.args.channel.now in let disk = g.V.Volume.disk c.args.volume.now in record {
      taken = λ state stands. loaded_is O.rests G.rests O.opens_as G.opens_as G.doubt O.holds G.holds channel (Finds O.opens_as G.opens_as G.doubt O.damage G.damage channel (reads disk)) (size_of table)
          (channel_in table channel) state disk c.in-Some.slot c.in-Some.ensures.taken stands;
      refused = λ state stands. tt;
      leaves = λ state stands h s has image left.
          let slot : slot_in table channel ≡ Some c.in-Some.slot = sym c.in-Some.ensures.taken in
          c.channels_keep_their_lists.ensures channel (channel_in table channel) state disk h s (rw slot (c.requires.made.slots channel c.in-Some.slot slot)) stands has image (now_alone disk image left);
      syncs = no_sync;
    }

pub returns-in-Some-clause-slot : goal.returns-in-Some-clause-slot
returns-in-Some-clause-slot g c = c.requires.made.slots c.args.channel.now c.in-Some.slot (sym c.in-Some.ensures.taken)

pub returns-in-Some-clause-made : goal.returns-in-Some-clause-made
returns-in-Some-clause-made g c =
    let O = g.O.Ledger in let G = g.G.Ledger in record {
      slots = keeper_on (λ channel slot. IsSlotFor O.name O.form_of O.live O.count G.name G.form_of G.live G.count channel slot) c.args.self.now.table c.take.new.self c.args.channel.now
          (λ slot is. let e : None ≡ Some slot = sym c.take.ensures.left ∙ is in absurd (cc)) c.take.ensures.others c.requires.made.slots;
      few = omega (arith, c.take.ensures.size, c.requires.made.few);
    }

pub returns-in-Some-clause-full : goal.returns-in-Some-clause-full
returns-in-Some-clause-full g c = (λ is. absurd (ok_is_none c.in-Some.slot _ is), λ many. loaded_fits (channel_in c.args.self.now.table c.args.channel.now) c.in-Some.slot c.in-Some.ensures.taken many.1)

pub returns-in-Some-clause-loaded : goal.returns-in-Some-clause-loaded
returns-in-Some-clause-loaded g c = rw (sym c.in-Some.ensures.taken) (refl, refl)

pub returns-in-Some-clause-table : goal.returns-in-Some-clause-table
returns-in-Some-clause-table g c =
    let none = taken_none (channel_in c.args.self.now.table c.args.channel.now) (channel_in c.take.new.self c.args.channel.now) c.in-Some.slot c.in-Some.ensures.taken in
    record { others = c.take.ensures.others; grew = omega (arith, none, c.take.ensures.size) }

pub load-requires-clause-made : goal.load-requires-clause-made
load-requires-clause-made g c =
    let O = g.O.Ledger in let G = g.G.Ledger in record {
      slots = keeper_on (λ channel slot. IsSlotFor O.name O.form_of O.live O.count G.name G.form_of G.live G.count channel slot) c.args.self.now.table c.take.new.self c.args.channel.now
          (λ slot is. let e : None ≡ Some slot = sym c.take.ensures.left ∙ is in absurd (cc)) c.take.ensures.others c.requires.made.slots;
      few = omega (arith, c.take.ensures.size, c.requires.made.few);
    }

pub returns-in-None-clause-takes : goal.returns-in-None-clause-takes
returns-in-None-clause-takes g c = λ told.
    let found = same_unloaded (channel_in c.args.self.now.table c.args.channel.now) (channel_in c.take.new.self c.args.channel.now) (sym c.in-None.ensures.taken) c.take.ensures.left c.take.ensures.again in
    let takes = c.load.ensures.takes told in record {
      taken = rw (found, c.take.ensures.size) at takes.taken;
      refused = rw (found, c.take.ensures.size) at takes.refused;
      leaves = rw found at takes.leaves;
      syncs = takes.syncs;
    }

pub returns-in-None-clause-full : goal.returns-in-None-clause-full
returns-in-None-clause-full g c =
    let old = c.args.self.now.table in let mid = c.take.new.self in let channel = c.args.channel.now in
    let found = same_unloaded (channel_in old channel) (channel_in mid channel) (sym c.in-None.ensures.taken) c.take.ensures.left c.take.ensures.again in (
      λ is. too_many_on mid old channel found c.take.ensures.size (c.load.ensures.full.0 is),
      λ many. c.load.ensures.full.1 (too_many_on old mid channel (sym found) (sym c.take.ensures.size) many),
    )

pub returns-in-None-clause-loaded : goal.returns-in-None-clause-loaded
returns-in-None-clause-loaded g c = rw (sym c.in-None.ensures.taken) tt

pub returns-in-None-clause-table : goal.returns-in-None-clause-table
returns-in-None-clause-table g c =
    let old = channel_in c.args.self.now.table c.args.channel.now in let mid = channel_in c.take.new.self c.args.channel.now in let new = channel_in c.load.new.self.table c.args.channel.now in
    let found = same_unloaded old mid (sym c.in-None.ensures.taken) c.take.ensures.left c.take.ensures.again in record {
      others = λ other differ. c.load.ensures.table.others other differ ∙ c.take.ensures.others other differ;
      grew = c.load.ensures.table.grew ∙ ap (λ (n : ℕ). n + newly mid new) c.take.ensures.size ∙ ap (λ f. size_of c.args.self.now.table + newly f new) found;
    }
