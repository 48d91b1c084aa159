use Rattle.std.proofs.Common.{◌≡◌, ◌∙◌, Some, IfSome, IsOk, sym, ap, subst}
use Rattle.std.proofs.lemmas.Result.{err_from_is_err_and}
use Rattle.disk_volume.specs.Disk.{reads}
use Rattle.log_format.specs.declared.form.TheConstants.{MOST_ENTRIES_ONE}
use Rattle.keeper_entry.specs.Index.{IsIndex}
use Rattle.keeper_channel.specs.declared.slot.Slot.{Slot}
use Rattle.keeper_state.specs.State.{Finds, StandsFor}
use Rattle.keeper_table.specs.Span.{tail_in}
use Rattle.keeper_log.specs.Keeper.{HasEntry}
use Rattle.keeper_table.specs.Table.{channel_in, slot_in, joined, size_of, IsOneTooMany}
use Rattle.keeper_log.proofs.Histories.{answered}
use Rattle.keeper_log.proofs.Refusals.{ok_exactly, err_exactly}
use Rattle.keeper_log.proofs.Tables.{one_slot, counted_before, at_most}
use Rattle.keeper_log.proofs.keeper.Keeper.tail.Goals as goal

pub returns-clause-told : goal.returns-clause-told
returns-clause-told g c = λ told.
    let O = g.O.Ledger in let G = g.G.Ledger in let channel = c.args.channel.now in
    let old = g.V.Volume.disk c.args.volume.now in let new = g.V.Volume.disk c.wake.new.volume in
    let asks = c.in_ok-wake.ensures.told told in record {
      told = λ state stands. answered (λ next. StandsFor O.rests G.rests O.opens_as G.opens_as G.doubt O.holds G.holds channel (channel_in c.wake.new.self.table channel) next new)
          (Finds O.opens_as G.opens_as G.doubt O.damage G.damage channel (reads old)) (size_of c.args.self.now.table) state (λ held told. told ≡ tail_in held c.args.at) c.tail_of.result (asks.told state stands)
          (λ held suspense here. c.tail_of.ensures.span held (subst (λ (s : Slot _ _). IsIndex s.index held) (one_slot here.0 c.in-Some.slot.now (sym (ap joined here.1) ∙ sym c.in-Some.ensures)) here.2.indexed));
      leaves = asks.leaves;
      syncs = asks.syncs;
    }

pub returns-clause-entries : goal.returns-clause-entries
returns-clause-entries g c =
    counted_before c.tail_of.result c.in-Some.slot.now.index.count (HasEntry c.wake.new.self.table c.args.channel.now) c.tail_of.ensures.counts (λ index less. (c.in-Some.slot.now, sym c.in-Some.ensures, less))

pub returns-clause-few : goal.returns-clause-few
returns-clause-few g c = at_most c.tail_of.result c.in-Some.slot.now.index.count MOST_ENTRIES_ONE c.tail_of.ensures.counts (c.wake.ensures.made.slots c.args.channel.now c.in-Some.slot.now (sym c.in-Some.ensures)).few

pub returns-clause-counts : goal.returns-clause-counts
returns-clause-counts g c = rw (sym c.in-Some.ensures) c.tail_of.ensures.counts

pub returns-clause-full : goal.returns-clause-full
returns-clause-full g c = ok_exactly tt c.tail_of.result _ (IsOneTooMany c.args.self.now.table c.args.channel.now) c.in_ok-wake.ensures.full

pub returns-clause-loaded : goal.returns-clause-loaded
returns-clause-loaded g c = c.in_ok-wake.ensures.loaded

pub returns-in_err-wake-clause-told : goal.returns-in_err-wake-clause-told
returns-in_err-wake-clause-told g c = let p = err_from_is_err_and c.from_residual.result c.from_residual.ensures.1 in
    rw (p.1, p.2) (λ told. let asks = c.in_err-wake.ensures.told told in record { told = asks.told; leaves = asks.leaves; syncs = asks.syncs })

pub returns-in_err-wake-clause-full : goal.returns-in_err-wake-clause-full
returns-in_err-wake-clause-full g c = let p = err_from_is_err_and c.from_residual.result c.from_residual.ensures.1 in
    rw (p.1, p.2) (err_exactly _ _ _ c.in_err-wake.ensures.full)

pub returns-in_err-wake-clause-loaded : goal.returns-in_err-wake-clause-loaded
returns-in_err-wake-clause-loaded g c = let p = err_from_is_err_and c.from_residual.result c.from_residual.ensures.1 in
    subst (λ r. IfSome (slot_in c.args.self.now.table c.args.channel.now) (λ slot. (c.wake.new.volume ≡ c.args.volume.now) × IsOk r)) (sym p.1) c.in_err-wake.ensures.loaded
