use Rattle.std.proofs.Common.{map, arith, refl}
use Rattle.keeper_state.specs.Slot.{IsSlotFor}
use Rattle.keeper_table.specs.Table.{channel_in, slot_in}
use Rattle.keeper_log.specs.Entries.{payload_in}
use Rattle.keeper_log.proofs.Refusals.{err_is_not_ok, same_refusal}
use Rattle.keeper_log.proofs.Stores.{nothing_stored}
use Rattle.keeper_log.proofs.Tables.{slot_any, slot_here, newly_same}
use Rattle.keeper_log.proofs.keeper.Keeper.store_group.Goals as goal

pub returns-in-Ok-clause-stored : goal.returns-in-Ok-clause-stored
returns-in-Ok-clause-stored g c = rw c.in-Ok.ensures.payloads at c.store_payloads.ensures.stored

pub returns-in-Ok-clause-full : goal.returns-in-Ok-clause-full
returns-in-Ok-clause-full g c = rw c.in-Ok.ensures.payloads at c.store_payloads.ensures.full

pub returns-in-Ok-clause-room : goal.returns-in-Ok-clause-room
returns-in-Ok-clause-room g c = rw c.in-Ok.ensures.payloads at c.store_payloads.ensures.room

-- there was no memory: nothing was done
pub returns-in-Err-clause-stored : goal.returns-in-Err-clause-stored
returns-in-Err-clause-stored g c = λ told.
    let O = g.O.Ledger in let G = g.G.Ledger in let table = c.args.self.now.table in let channel = c.args.channel.now in let disk = g.V.Volume.disk c.args.volume.now in
    nothing_stored O.rests G.rests O.opens_as G.opens_as G.doubt O.damage G.damage O.holds G.holds O.owns G.owns channel (map payload_in c.args.entries.now) table _ disk (λ state. tt)
    (λ state h s stands has. c.channels_keep_their_lists.ensures channel (channel_in table channel) state disk h s
    (slot_here table channel (IsSlotFor O.name O.form_of O.live O.count G.name G.form_of G.live G.count channel) (c.requires.made.slots channel)) stands has)

pub returns-in-Err-clause-table : goal.returns-in-Err-clause-table
returns-in-Err-clause-table g c = let none = newly_same (channel_in c.args.self.now.table c.args.channel.now) in record { others = λ other differ. refl; grew = omega (arith, none) }

pub returns-in-Err-clause-full : goal.returns-in-Err-clause-full
returns-in-Err-clause-full g c = λ is. let same = same_refusal _ _ is in absurd (cc)

pub returns-in-Err-clause-room : goal.returns-in-Err-clause-room
returns-in-Err-clause-room g c = slot_any (slot_in c.args.self.now.table c.args.channel.now) _ (λ slot no ok. err_is_not_ok ok)

pub returns-in-Err-clause-place : goal.returns-in-Err-clause-place
returns-in-Err-clause-place g c = λ many ok. err_is_not_ok ok
