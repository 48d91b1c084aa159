use Rattle.std.proofs.Common.{ℕ, List, IfSome, sym, subst}
use Rattle.disk_volume.specs.Moments.{Grew}
use Rattle.log_format.specs.declared.form.Form.TheVariants.{One, Two}
use Rattle.keeper_channel.specs.Slot.{IsSlot, IsSlotOf, IsStored}
use Rattle.keeper_table.specs.Files.{file_one, file_two}
use Rattle.keeper_state.specs.Slot.{IsLogOf}
use Rattle.keeper_log.proofs.Standing.{by_names}
use Rattle.keeper_log.proofs.storing.store_in_slot.Goals as goal

pub store_entries-requires-clause-apart : goal.store_entries-requires-clause-apart
store_entries-requires-clause-apart g c = λ file owned_two owned_one.
    c.requires.apart file (subst (λ (n : List ℕ). g.G.Ledger.owns n file) c.requires.two owned_two) (subst (λ (n : List ℕ). g.O.Ledger.owns n file) c.requires.one owned_one)

pub store_entries-requires-clause-made : goal.store_entries-requires-clause-made
store_entries-requires-clause-made g c =
    let O = g.O.Ledger in let G = g.G.Ledger in
    by_names (λ one two. IsSlotOf (IsLogOf O.name O.form_of O.live one One) (IsLogOf G.name G.form_of G.live two Two) O.count G.count c.args.slot)
    (file_one c.args.channel.now) (file_two c.args.channel.now) c.args.one.now c.args.two.now (sym c.requires.one) (sym c.requires.two) c.requires.made

pub store_entries-requires-clause-slot : goal.store_entries-requires-clause-slot
store_entries-requires-clause-slot g c = λ told.
    let O = g.O.Ledger in let G = g.G.Ledger in
    let given = c.requires.slot told in
    (given.0, given.1, subst (λ (two : List ℕ). IsSlot O.holds G.holds (G.doubt Two two) c.args.slot given.0 given.1 (g.V.Volume.disk c.args.volume.now)) (sym c.requires.two) given.2)

pub returns-clause-stored : goal.returns-clause-stored
returns-clause-stored g c = λ told held suspense.
    let O = g.O.Ledger in let G = g.G.Ledger in
    let old = g.V.Volume.disk c.args.volume.now in let new = g.V.Volume.disk c.store_entries.new.volume in
    by_names (λ one two. IsSlot O.holds G.holds (G.doubt Two two) c.args.slot held suspense old
    → IsStored (O.opens_as One one) (G.opens_as Two two) (G.doubt Two two) O.holds G.holds held suspense c.args.payloads.now c.store_entries.result.slot c.store_entries.result.answer old new)
    c.args.one.now c.args.two.now (file_one c.args.channel.now) (file_two c.args.channel.now) c.requires.one c.requires.two (c.store_entries.ensures.stored told held suspense)

pub returns-clause-made : goal.returns-clause-made
returns-clause-made g c =
    let O = g.O.Ledger in let G = g.G.Ledger in
    by_names (λ one two. IfSome c.store_entries.result.slot (IsSlotOf (IsLogOf O.name O.form_of O.live one One) (IsLogOf G.name G.form_of G.live two Two) O.count G.count))
    c.args.one.now c.args.two.now (file_one c.args.channel.now) (file_two c.args.channel.now) c.requires.one c.requires.two c.store_entries.ensures.made

pub returns-clause-files : goal.returns-clause-files
returns-clause-files g c = λ told.
    subst (λ (two : List ℕ). Grew (g.G.Ledger.owns two) (g.V.Volume.disk c.args.volume.now) (g.V.Volume.disk c.store_entries.new.volume)) c.requires.two (c.store_entries.ensures.files told)
