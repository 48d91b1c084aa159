use Rattle.std.proofs.Common.{◌≡◌, ◌∙◌, ◌<◌, Some, None, IsTrue, sym, ap, subst, arith}
use Rattle.disk_volume.specs.Disk.{Disk, IsImage}
use Rattle.log_format.specs.declared.form.Form.TheVariants.{One, Two}
use Rattle.keeper_channel.specs.Slot.{IsSlot}
use Rattle.keeper_channel.specs.declared.slot.Slot.{Slot}
use Rattle.keeper_channel.proofs.CallerLemmas.{slot_weaker}
use Rattle.keeper_table.specs.Files.{file_one, file_two}
use Rattle.keeper_state.specs.Slot.{IsLogOf, IsSlotFor}
use Rattle.keeper_state.specs.State.{live}
use Rattle.keeper_table.specs.Table.{channel_in, joined}
use Rattle.keeper_log.proofs.Tables.{keeper_on, known, one_slot}
use Rattle.keeper_log.proofs.keeper.Keeper.entry.Goals as goal

pub read_whole-requires-clause-live : goal.read_whole-requires-clause-live
read_whole-requires-clause-live g c =
    let O = g.O.Ledger in let G = g.G.Ledger in let channel = c.args.channel.now in
    slot_weaker (IsLogOf O.name O.form_of O.live (file_one channel) One) (λ log. IsTrue (O.live log)) (IsLogOf G.name G.form_of G.live (file_two channel) Two) (λ log. IsTrue (G.live log))
    O.count G.count c.in-Some.slot.now (λ log is. is.2) (λ log is. is.2) (c.requires.made.slots channel c.in-Some.slot.now (sym c.in-Some.ensures))

pub read_whole-requires-clause-index : goal.read_whole-requires-clause-index
read_whole-requires-clause-index g c =
    subst (λ (s : Slot _ _). c.args.index < s.index.count) (one_slot c.requires.loaded.0 c.in-Some.slot.now (sym c.requires.loaded.1 ∙ sym c.in-Some.ensures)) c.requires.loaded.2

pub read_whole-requires-clause-slot : goal.read_whole-requires-clause-slot
read_whole-requires-clause-slot g c = λ told.
    let O = g.O.Ledger in let G = g.G.Ledger in let channel = c.args.channel.now in
    let tie = c.requires.tie told in
    let same = one_slot tie.2.0 c.in-Some.slot.now (sym (ap joined tie.2.1) ∙ sym c.in-Some.ensures) in (
      G.doubt Two (file_two channel),
      tie.0,
      tie.1,
      subst (λ (s : Slot _ _). IsSlot O.holds G.holds (G.doubt Two (file_two channel)) s tie.0 tie.1 (g.V.Volume.disk c.args.volume.now)) same tie.2.2,
    )

pub returns-in-Ok-clause-entry : goal.returns-in-Ok-clause-entry
returns-in-Ok-clause-entry g c = λ told held suspense stands.
    let O = g.O.Ledger in let G = g.G.Ledger in let doubt = G.doubt Two (file_two c.args.channel.now) in
    let same = one_slot stands.0 c.in-Some.slot.now (sym (ap joined stands.1) ∙ sym c.in-Some.ensures) in
    c.in-Ok.ensures.entry told doubt held suspense (subst (λ (s : Slot _ _). IsSlot O.holds G.holds doubt s held suspense (g.V.Volume.disk c.args.volume.now)) same stands.2)

-- after `Store` a crash leaves the list, so the channel may be loaded again
pub returns-in-Err-Store-clause-stands : goal.returns-in-Err-Store-clause-stands
returns-in-Err-Store-clause-stands g c = λ told held suspense stands is.
    let O = g.O.Ledger in let G = g.G.Ledger in let channel = c.args.channel.now in
    let now = c.a_crash_leaves_what_is_kept.ensures (file_one channel) (file_two channel) (Some stands.0) (g.V.Volume.disk c.args.volume.now) held suspense
    (c.requires.made.slots channel stands.0 (ap joined stands.1)) stands.2 in
    (c.put.ensures.put, λ image left. now image (subst (λ (d : Disk). IsImage d image) (c.read_whole.ensures.disk told) left))

pub put-requires : goal.put-requires
put-requires g c = let e : joined (channel_in c.args.self.now.table c.args.channel.now) ≡ Some c.requires.loaded.0 = c.requires.loaded.1 in record { known = known (channel_in c.args.self.now.table c.args.channel.now) c.requires.loaded.0 e }

pub returns-in-Err-Store-clause-made : goal.returns-in-Err-Store-clause-made
returns-in-Err-Store-clause-made g c =
    let O = g.O.Ledger in let G = g.G.Ledger in record {
      slots = keeper_on (λ channel slot. IsSlotFor O.name O.form_of O.live O.count G.name G.form_of G.live G.count channel slot) c.args.self.now.table c.put.new.self c.args.channel.now
          (λ slot is. let e : None ≡ Some slot = sym (ap joined c.put.ensures.put) ∙ is in absurd (cc)) c.put.ensures.others c.requires.made.slots;
      few = omega (arith, c.put.ensures.size, c.requires.made.few);
    }
