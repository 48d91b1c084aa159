use Rattle.std.proofs.Common.{◌≡◌, ◌∙◌, ℕ, ◌+◌, Some, None, arith, refl, sym, ap, subst}
use Rattle.disk_volume.specs.Disk.{reads}
use Rattle.disk_volume.specs.Moments.{no_sync}
use Rattle.disk_volume.specs.Lemmas.Since.{now_alone}
use Rattle.keeper_state.specs.Slot.{IsSlotFor}
use Rattle.keeper_state.specs.State.{Finds, StandsFor}
use Rattle.keeper_table.specs.Table.{channel_in, joined, newly, size_of}
use Rattle.keeper_log.proofs.Reaching.{place, no_place, needs, not_reached}
use Rattle.keeper_log.proofs.Refusals.{ok_is_none, same_refusal}
use Rattle.keeper_log.proofs.Standing.{fits, no_slot}
use Rattle.keeper_log.proofs.Tables.{few_added, keeper_on, newly_added, newly_same}
use Rattle.keeper_log.proofs.keeper.Keeper.load.Goals as goal

-- the table is full
pub returns-then-is_full_for-clause-takes : goal.returns-then-is_full_for-clause-takes
returns-then-is_full_for-clause-takes g c = λ told.
    let O = g.O.Ledger in let G = g.G.Ledger in let table = c.args.self.now.table in let channel = c.args.channel.now in let disk = g.V.Volume.disk c.args.volume.now in
    let full = c.is_full_for.ensures.0 c.if-is_full_for.true in record {
      taken = λ state stands. tt;
      refused = λ state stands.
          (no_place (channel_in table channel) state (size_of table) (fits O.rests G.rests O.opens_as G.opens_as G.doubt O.holds G.holds channel (channel_in table channel) state disk stands) full.0 full.1, stands);
      leaves = λ state stands h s has image left. c.channels_keep_their_lists.ensures channel (channel_in table channel) state disk h s
          (no_slot (channel_in table channel) (IsSlotFor O.name O.form_of O.live O.count G.name G.form_of G.live G.count channel) c.requires.unloaded) stands has image (now_alone disk image left);
      syncs = no_sync;
    }

pub returns-then-is_full_for-clause-full : goal.returns-then-is_full_for-clause-full
returns-then-is_full_for-clause-full g c = (λ is. c.is_full_for.ensures.0 c.if-is_full_for.true, λ many. refl)

pub returns-then-is_full_for-clause-table : goal.returns-then-is_full_for-clause-table
returns-then-is_full_for-clause-table g c = let none = newly_same (channel_in c.args.self.now.table c.args.channel.now) in record { others = λ other differ. refl; grew = omega (arith, none) }

-- it was loaded
pub returns-in-Ok-add-clause-takes : goal.returns-in-Ok-add-clause-takes
returns-in-Ok-add-clause-takes g c = λ told.
    let O = g.O.Ledger in let G = g.G.Ledger in let table = c.args.self.now.table in let channel = c.args.channel.now in let disk = g.V.Volume.disk c.args.volume.now in
    let found = channel_in table channel in
    let loads = c.in-Ok.ensures.loads told in record {
      taken = λ state stands.
          let is = fits O.rests G.rests O.opens_as G.opens_as G.doubt O.holds G.holds channel found state disk stands in
          let reached = loads.reached found state c.requires.unloaded stands in
          (place found state c.is_full_for.result (size_of table) is c.if-is_full_for.false c.is_full_for.ensures, reached.0, reached.1, reached.2, reached.3);
      refused = λ state stands. tt;
      leaves = λ state stands. loads.leaves found state c.requires.unloaded stands;
      syncs = loads.syncs;
    }

pub returns-in-Ok-add-clause-made : goal.returns-in-Ok-add-clause-made
returns-in-Ok-add-clause-made g c =
    let O = g.O.Ledger in let G = g.G.Ledger in let table = c.args.self.now.table in record {
      slots = keeper_on (λ channel slot. IsSlotFor O.name O.form_of O.live O.count G.name G.form_of G.live G.count channel slot) table c.add.new.self c.args.channel.now
          (λ slot is. let e : None ≡ Some slot = sym (ap joined c.in-Ok-add.ensures.added) ∙ is in absurd (cc))
          c.add.ensures.others c.requires.made.slots;
      few = few_added (channel_in table c.args.channel.now) c.is_full_for.result (size_of table) (size_of c.add.new.self) c.if-is_full_for.false c.is_full_for.ensures c.requires.made.few c.in-Ok-add.ensures.size;
    }

pub returns-in-Ok-add-clause-full : goal.returns-in-Ok-add-clause-full
returns-in-Ok-add-clause-full g c =
    (λ is. absurd (ok_is_none c.in-Ok.slot _ is), λ many. let no = sym (c.is_full_for.ensures.1 many) ∙ c.if-is_full_for.false in absurd (cc))

pub returns-in-Ok-add-clause-table : goal.returns-in-Ok-add-clause-table
returns-in-Ok-add-clause-table g c = let old = c.args.self.now.table in record {
  others = c.add.ensures.others;
  grew = c.in-Ok-add.ensures.size ∙ ap (λ (n : ℕ). size_of old + n) (sym (newly_added (channel_in old c.args.channel.now) (channel_in c.add.new.self c.args.channel.now) c.in-Ok-add.ensures.added));
}

-- there was no memory to note it
pub returns-in-Err-add-clause-takes : goal.returns-in-Err-add-clause-takes
returns-in-Err-add-clause-takes g c = λ told.
    let O = g.O.Ledger in let G = g.G.Ledger in let channel = c.args.channel.now in
    let found = channel_in c.args.self.now.table channel in
    let loads = c.load_channel.ensures.loads told in record {
      taken = λ state stands. tt;
      refused = λ state stands. (
        tt,
        subst (λ f. StandsFor O.rests G.rests O.opens_as G.opens_as G.doubt O.holds G.holds channel f state (g.V.Volume.disk c.load_channel.new.volume))
            (sym (c.in-Err-add.ensures.kept.1 channel)) (loads.stays found state c.requires.unloaded stands),
      );
      leaves = λ state stands. loads.leaves found state c.requires.unloaded stands;
      syncs = loads.syncs;
    }

pub returns-in-Err-add-clause-made : goal.returns-in-Err-add-clause-made
returns-in-Err-add-clause-made g c = record {
  slots = λ other slot is. c.requires.made.slots other slot (ap joined (sym (c.in-Err-add.ensures.kept.1 other)) ∙ is);
  few = omega (arith, c.in-Err-add.ensures.kept.2, c.requires.made.few);
}

pub returns-in-Err-add-clause-full : goal.returns-in-Err-add-clause-full
returns-in-Err-add-clause-full g c = (λ is. let same = same_refusal _ _ is in absurd (cc), λ many. let no = sym (c.is_full_for.ensures.1 many) ∙ c.if-is_full_for.false in absurd (cc))

pub returns-in-Err-add-clause-unloaded : goal.returns-in-Err-add-clause-unloaded
returns-in-Err-add-clause-unloaded g c = ap joined (c.in-Err-add.ensures.kept.1 c.args.channel.now) ∙ c.requires.unloaded

pub returns-in-Err-add-clause-table : goal.returns-in-Err-add-clause-table
returns-in-Err-add-clause-table g c =
    let found = channel_in c.args.self.now.table c.args.channel.now in
    let none : newly found (channel_in c.add.new.self c.args.channel.now) ≡ 0 = ap (λ f. newly found f) (c.in-Err-add.ensures.kept.1 c.args.channel.now) ∙ newly_same found in
    record { others = λ other differ. c.in-Err-add.ensures.kept.1 other; grew = omega (arith, none, c.in-Err-add.ensures.kept.2) }

-- the load was refused
pub returns-in-Err-clause-takes : goal.returns-in-Err-clause-takes
returns-in-Err-clause-takes g c = λ told.
    let O = g.O.Ledger in let G = g.G.Ledger in let table = c.args.self.now.table in let channel = c.args.channel.now in let disk = g.V.Volume.disk c.args.volume.now in
    let found = channel_in table channel in
    let loads = c.in-Err.ensures.loads told in record {
      taken = λ state stands. tt;
      refused = λ state stands. let is = fits O.rests G.rests O.opens_as G.opens_as G.doubt O.holds G.holds channel found state disk stands in (
        not_reached (Finds O.opens_as G.opens_as G.doubt O.damage G.damage channel (reads disk)) (size_of table) state c.in-Err.refused
            (place found state c.is_full_for.result (size_of table) is c.if-is_full_for.false c.is_full_for.ensures) (needs found state is c.requires.unloaded) loads.damaged,
        loads.stays found state c.requires.unloaded stands,
      );
      leaves = λ state stands. loads.leaves found state c.requires.unloaded stands;
      syncs = loads.syncs;
    }

pub returns-in-Err-clause-full : goal.returns-in-Err-clause-full
returns-in-Err-clause-full g c = (λ is. absurd (c.in-Err.ensures.full is), λ many. let no = sym (c.is_full_for.ensures.1 many) ∙ c.if-is_full_for.false in absurd (cc))

pub returns-in-Err-clause-table : goal.returns-in-Err-clause-table
returns-in-Err-clause-table g c = let none = newly_same (channel_in c.args.self.now.table c.args.channel.now) in record { others = λ other differ. refl; grew = omega (arith, none) }
