use Rattle.std.proofs.Common.{◌≡◌, ◌∙◌, Option, Some, None, IfSome, is_some, arith, refl, sym, ap, subst}
use Rattle.std.proofs.lemmas.Result.{err_from_is_err_and}
use Rattle.keeper_channel.specs.declared.slot.Slot.{Slot}
use Rattle.keeper_state.specs.Slot.{IsSlotFor}
use Rattle.keeper_state.specs.State.{live}
use Rattle.keeper_table.specs.Table.{channel_in, slot_in, joined, size_of, IsOneTooMany}
use Rattle.keeper_log.proofs.Refusals.{ok_exactly, err_exactly}
use Rattle.keeper_log.proofs.Tables.{keeper_on, grew_put, taken_same, taken_never}
use Rattle.keeper_log.proofs.keeper.Keeper.wake.Goals as goal

pub put-requires : goal.put-requires
put-requires g c = record { known = rw c.in_ok-slot.ensures.again refl }

pub returns-clause-told : goal.returns-clause-told
returns-clause-told g c = λ told.
    let takes = c.in_ok-slot.ensures.takes told in record {
      told = λ state stands.
          let taken = takes.taken state stands in (live taken.1 taken.2, (taken.0, taken.1, taken.2, taken.3, (tt, refl)), (c.in_ok-slot.slot, c.put.ensures.put, taken.4));
      leaves = takes.leaves;
      syncs = takes.syncs;
    }

pub returns-clause-made : goal.returns-clause-made
returns-clause-made g c =
    let O = g.O.Ledger in let G = g.G.Ledger in record {
      slots = keeper_on (λ channel slot. IsSlotFor O.name O.form_of O.live O.count G.name G.form_of G.live G.count channel slot) c.take_slot.new.self.table c.put.new.self c.args.channel.now
          (λ slot is. let same : Some c.in_ok-slot.slot ≡ Some slot = sym (ap joined c.put.ensures.put) ∙ is in
          subst (λ (s : Option (Slot _ _)). IfSome s (IsSlotFor O.name O.form_of O.live O.count G.name G.form_of G.live G.count c.args.channel.now)) same c.in_ok-slot.ensures.slot)
          c.put.ensures.others c.take_slot.ensures.made.slots;
      few = omega (arith, c.put.ensures.size, c.take_slot.ensures.made.few);
    }

pub returns-clause-full : goal.returns-clause-full
returns-clause-full g c = ok_exactly c.in_ok-slot.slot tt _ (IsOneTooMany c.args.self.now.table c.args.channel.now) c.in_ok-slot.ensures.full

pub returns-clause-loaded : goal.returns-clause-loaded
returns-clause-loaded g c = taken_same (slot_in c.args.self.now.table c.args.channel.now) (c.take_slot.new.volume ≡ c.args.volume.now) _ c.in_ok-slot.slot _ refl (λ slot still same. (still, refl)) c.in_ok-slot.ensures.loaded

pub returns-clause-known : goal.returns-clause-known
returns-clause-known g c = ap (λ f. is_some (joined f)) c.put.ensures.put

pub returns-clause-table : goal.returns-clause-table
returns-clause-table g c =
    let channel = c.args.channel.now in let old = c.args.self.now.table in let mid = c.take_slot.new.self.table in record {
      others = λ other differ. c.put.ensures.others other differ ∙ c.take_slot.ensures.table.others other differ;
      grew = grew_put (channel_in old channel) (channel_in mid channel) (channel_in c.put.new.self channel) None (Some c.in_ok-slot.slot) (size_of old) (size_of mid) (size_of c.put.new.self)
          c.in_ok-slot.ensures.again c.put.ensures.put c.take_slot.ensures.table.grew c.put.ensures.size;
    }

pub returns-in_err-slot-clause-told : goal.returns-in_err-slot-clause-told
returns-in_err-slot-clause-told g c = let p = err_from_is_err_and c.from_residual.result c.from_residual.ensures.1 in rw (p.1, p.2) (λ told.
    let takes = c.in_err-slot.ensures.takes told in record {
      told = λ state stands. let refused = takes.refused state stands in (state, (refused.0, refl), refused.1);
      leaves = takes.leaves;
      syncs = takes.syncs;
    })

pub returns-in_err-slot-clause-full : goal.returns-in_err-slot-clause-full
returns-in_err-slot-clause-full g c = let p = err_from_is_err_and c.from_residual.result c.from_residual.ensures.1 in
    rw (p.1, p.2) (err_exactly _ _ _ c.in_err-slot.ensures.full)

pub returns-in_err-slot-clause-loaded : goal.returns-in_err-slot-clause-loaded
returns-in_err-slot-clause-loaded g c = taken_never (slot_in c.args.self.now.table c.args.channel.now) (c.take_slot.new.volume ≡ c.args.volume.now) _ _ _ refl c.in_err-slot.ensures.loaded
