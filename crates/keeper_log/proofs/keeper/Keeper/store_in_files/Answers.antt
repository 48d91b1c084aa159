use Rattle.std.proofs.Common.{◌≡◌, ◌∙◌, inl, inr, Option, Some, None, Ok, Err, is_some, IfSome, refl, sym, ap, subst, arith}
use Rattle.disk_volume.specs.Disk.{Disk, reads}
use Rattle.disk_volume.specs.Moments.{OnlySyncs, still}
use Rattle.disk_volume.specs.Lemmas.Others.{syncs_grew}
use Rattle.disk_volume.specs.Lemmas.Since.{grew_then, grew_within}
use Rattle.keeper_channel.specs.declared.refused.KeeperRefused.TheVariants.{Full}
use Rattle.keeper_channel.specs.declared.slot.Slot.{Slot}
use Rattle.keeper_table.specs.Files.{OfChannel}
use Rattle.keeper_state.specs.Slot.{IsSlotFor}
use Rattle.keeper_state.specs.State.{Finds}
use Rattle.keeper_table.specs.Table.{channel_in, slot_in, joined, size_of}
use Rattle.keeper_log.specs.Calls.{HasNoRoom}
use Rattle.keeper_log.proofs.Refusals.{err_is_not_ok, ok_is_none, ok_not_refused, on_ok}
use Rattle.keeper_log.proofs.Stores.{and_leaves, stored_left, left_since, added_since}
use Rattle.keeper_log.proofs.Tables.{keeper_on, grew_put, taken_same, taken_never}
use Rattle.keeper_log.proofs.keeper.Keeper.store_in_files.Goals as goal

pub store_in_slot-slot-requires-clause-slot : goal.store_in_slot-slot-requires-clause-slot
store_in_slot-slot-requires-clause-slot g c = λ told.
    let tie = c.requires.tie told in
    let taken = (c.in-Ok.ensures.takes told).taken tie.0 tie.1 in
    (taken.1, taken.2, taken.4)

pub put-requires : goal.put-requires
put-requires g c = record { known = rw c.in-Ok.ensures.again refl }

pub returns-in-Ok-clause-stored : goal.returns-in-Ok-clause-stored
returns-in-Ok-clause-stored g c = λ told.
    let O = g.O.Ledger in let G = g.G.Ledger in let channel = c.args.channel.now in let table = c.args.self.now.table in
    let old = g.V.Volume.disk c.args.volume.now in let mid = g.V.Volume.disk c.take_slot.new.volume in let new = g.V.Volume.disk c.store_in_slot-slot.new.volume in
    let finds = Finds O.opens_as G.opens_as G.doubt O.damage G.damage channel (reads old) in
    let takes = c.in-Ok.ensures.takes told in let tie = c.requires.tie told in
    let acts = c.store_in_slot-slot.ensures.files told in record {
      stored = λ state stands.
          let taken = takes.taken state stands in
          let left = stored_left O.rests G.rests O.opens_as G.opens_as G.doubt O.holds G.holds channel finds (size_of table) state taken.1 taken.2 c.args.payloads.now
          c.store_in_slot-slot.result.slot (channel_in c.put.new.self channel) c.store_in_slot-slot.result.answer mid new
          (c.store_in_slot-slot.ensures.stored told taken.1 taken.2 taken.4) c.store_in_slot-slot.ensures.some c.store_in_slot-slot.ensures.none c.put.ensures.put taken.0 taken.3 in (
            left.0,
            and_leaves O.opens_as G.opens_as channel finds (size_of table) state left.0 c.args.payloads.now c.store_in_slot-slot.result.answer old new left.1
                (left_since O.opens_as G.opens_as channel finds state left.0 old mid new acts (takes.leaves state stands) left.3),
            left.2,
          );
      leaves = λ state stands.
          let taken = takes.taken state stands in
          added_since O.opens_as G.opens_as channel finds state c.args.payloads.now old mid new taken.1 taken.2
          acts (takes.leaves state stands) taken.3 (c.store_in_slot-slot.ensures.stored told taken.1 taken.2 taken.4).each;
      acts = record { mid = mid; syncs = takes.syncs; acts = acts };
      files = grew_then new (syncs_grew mid takes.syncs) (grew_within new (λ file is. inr is) acts);
      nothing = λ which.
          let taken = takes.taken tie.0 tie.1 in
          let stored = c.store_in_slot-slot.ensures.stored told taken.1 taken.2 taken.4 in
          elim which [
            | inl full ↦ subst (λ (d : Disk). OnlySyncs (OfChannel O.owns G.owns channel) old d) (sym (stored.nothing full).1) takes.syncs
            | inr damaged ↦ absurd (stored.undamaged damaged.0 damaged.1)
          ];
      -- a channel whose slot was put is there
      unseen = λ none. let e : Some c.store_in_slot-slot.result.slot ≡ None = sym c.put.ensures.put ∙ none in absurd (cc);
    }

pub returns-in-Ok-clause-again : goal.returns-in-Ok-clause-again
returns-in-Ok-clause-again g c = λ is. ap joined c.put.ensures.put ∙ c.store_in_slot-slot.ensures.none is

pub returns-in-Ok-clause-known : goal.returns-in-Ok-clause-known
returns-in-Ok-clause-known g c = on_ok c.store_in_slot-slot.result.answer _ (λ ok. ap is_some (ap joined c.put.ensures.put) ∙ c.store_in_slot-slot.ensures.some ok)

pub returns-in-Ok-clause-place : goal.returns-in-Ok-clause-place
returns-in-Ok-clause-place g c = λ many ok. ok_is_none c.in-Ok.slot _ (c.in-Ok.ensures.full.1 many)

pub returns-in-Ok-clause-full : goal.returns-in-Ok-clause-full
returns-in-Ok-clause-full g c = λ is.
    taken_same (slot_in c.args.self.now.table c.args.channel.now) (c.take_slot.new.volume ≡ c.args.volume.now) _ c.in-Ok.slot _ refl
    (λ slot still same. (
      c.store_in_slot-slot.ensures.nothing is ∙ still,
      subst (λ (s : Slot _ _). HasNoRoom g.G.Ledger.room s c.args.payloads.now) same (λ list indexed. (c.store_in_slot-slot.ensures.full list indexed).0 is),
    )) c.in-Ok.ensures.loaded

pub returns-in-Ok-clause-room : goal.returns-in-Ok-clause-room
returns-in-Ok-clause-room g c =
    taken_same (slot_in c.args.self.now.table c.args.channel.now) (c.take_slot.new.volume ≡ c.args.volume.now) _ c.in-Ok.slot _ refl
    (λ slot still same no ok.
    let here = subst (λ (s : Slot _ _). HasNoRoom g.G.Ledger.room s c.args.payloads.now) (sym same) no in
    let index = c.in-Ok.ensures.slot.indexed in
    ok_not_refused c.store_in_slot-slot.result.answer Full ok ((c.store_in_slot-slot.ensures.full index.0 index.1).1 (here index.0 index.1))) c.in-Ok.ensures.loaded

pub returns-in-Ok-clause-made : goal.returns-in-Ok-clause-made
returns-in-Ok-clause-made g c =
    let O = g.O.Ledger in let G = g.G.Ledger in record {
      slots = keeper_on (λ channel slot. IsSlotFor O.name O.form_of O.live O.count G.name G.form_of G.live G.count channel slot) c.take_slot.new.self.table c.put.new.self c.args.channel.now
          (λ slot is. let same : c.store_in_slot-slot.result.slot ≡ Some slot = sym (ap joined c.put.ensures.put) ∙ is in
          subst (λ (s : Option (Slot _ _)). IfSome s (IsSlotFor O.name O.form_of O.live O.count G.name G.form_of G.live G.count c.args.channel.now)) same c.store_in_slot-slot.ensures.made)
          c.put.ensures.others c.take_slot.ensures.made.slots;
      few = omega (arith, c.put.ensures.size, c.take_slot.ensures.made.few);
    }

pub returns-in-Ok-clause-table : goal.returns-in-Ok-clause-table
returns-in-Ok-clause-table g c =
    let channel = c.args.channel.now in let old = c.args.self.now.table in let mid = c.take_slot.new.self.table in record {
      others = λ other differ. c.put.ensures.others other differ ∙ c.take_slot.ensures.table.others other differ;
      grew = grew_put (channel_in old channel) (channel_in mid channel) (channel_in c.put.new.self channel) None c.store_in_slot-slot.result.slot (size_of old) (size_of mid) (size_of c.put.new.self)
          c.in-Ok.ensures.again c.put.ensures.put c.take_slot.ensures.table.grew c.put.ensures.size;
    }

-- the call came to no list
pub returns-in-Err-clause-stored : goal.returns-in-Err-clause-stored
returns-in-Err-clause-stored g c = λ told.
    let takes = c.in-Err.ensures.takes told in let new = g.V.Volume.disk c.take_slot.new.volume in record {
      stored = λ state stands. let refused = takes.refused state stands in (state, inl (refused.0, refl, takes.leaves state stands), refused.1);
      leaves = λ state stands h s has image left. inl (takes.leaves state stands h s has image left);
      acts = record { mid = new; syncs = takes.syncs; acts = still };
      files = syncs_grew new takes.syncs;
      nothing = λ which. takes.syncs;
      unseen = λ none. takes.syncs;
    }

pub returns-in-Err-clause-again : goal.returns-in-Err-clause-again
returns-in-Err-clause-again g c = λ is. c.in-Err.ensures.unloaded

pub returns-in-Err-clause-place : goal.returns-in-Err-clause-place
returns-in-Err-clause-place g c = λ many ok. err_is_not_ok ok

pub returns-in-Err-clause-full : goal.returns-in-Err-clause-full
returns-in-Err-clause-full g c = λ is. taken_never (slot_in c.args.self.now.table c.args.channel.now) (c.take_slot.new.volume ≡ c.args.volume.now) _ c.in-Err.refused _ refl c.in-Err.ensures.loaded

pub returns-in-Err-clause-room : goal.returns-in-Err-clause-room
returns-in-Err-clause-room g c = taken_never (slot_in c.args.self.now.table c.args.channel.now) (c.take_slot.new.volume ≡ c.args.volume.now) _ c.in-Err.refused _ refl c.in-Err.ensures.loaded
