use Rattle.std.proofs.Common.{◌≡◌, inl, inr, ℕ, List, refl, subst}
use Rattle.disk_volume.specs.Disk.{reads}
use Rattle.disk_volume.specs.Moments.{EachNow, EachSince, OnlySyncs}
use Rattle.disk_volume.specs.Lemmas.Others.{syncs_any}
use Rattle.log_format.specs.declared.damage.Damage.{Damage}
use Rattle.log_format.specs.declared.form.Form.TheVariants.{One, Two}
use Rattle.gated_log.specs.declared.refused.LoadRefused.TheVariants.{Store as LoadStore}
use Rattle.keeper_channel.specs.Chan.{IsList, IsWithin}
use Rattle.keeper_channel.specs.Disks.{Either}
use Rattle.keeper_channel.specs.Slot.{HasDamage, IsReloaded, IsSlotFound, IsSlotOf, NamesIt}
use Rattle.keeper_channel.specs.declared.refused.KeeperRefused.TheVariants.{Full, Store}
use Rattle.keeper_table.specs.Files.{file_one, file_two}
use Rattle.keeper_state.specs.Slot.{IsLogOf, IsSlotFor}
use Rattle.keeper_log.proofs.Refusals.{names_it, same_refusal}
use Rattle.keeper_log.proofs.Standing.{by_names, load_left, no_slot, reached_by}
use Rattle.keeper_log.proofs.loading.load_files.Goals as goal

pub reload-requires : goal.reload-requires
reload-requires g c = record {
  apart = λ file owned_two owned_one.
      c.requires.apart file (subst (λ (n : List ℕ). g.G.Ledger.owns n file) c.requires.two owned_two) (subst (λ (n : List ℕ). g.O.Ledger.owns n file) c.requires.one owned_one);
}

pub returns-in-Ok-clause-made : goal.returns-in-Ok-clause-made
returns-in-Ok-clause-made g c =
    let O = g.O.Ledger in let G = g.G.Ledger in
    by_names (λ one two. IsSlotOf (IsLogOf O.name O.form_of O.live one One) (IsLogOf G.name G.form_of G.live two Two) O.count G.count c.in-Ok.slot)
    c.args.one.now c.args.two.now (file_one c.args.channel.now) (file_two c.args.channel.now) c.requires.one c.requires.two c.in-Ok.ensures.made

pub returns-in-Ok-clause-loads : goal.returns-in-Ok-clause-loads
returns-in-Ok-clause-loads g c = λ told.
    let O = g.O.Ledger in let G = g.G.Ledger in let channel = c.args.channel.now in
    let old = g.V.Volume.disk c.args.volume.now in let new = g.V.Volume.disk c.reload.new.volume in
    let syncs = by_names (λ one two. OnlySyncs (Either (O.owns one) (G.owns two)) old new)
    c.args.one.now c.args.two.now (file_one channel) (file_two channel) c.requires.one c.requires.two (c.reload.ensures.syncs told) in
    let still = load_left O.rests G.rests O.opens_as G.opens_as G.doubt O.damage G.damage O.holds G.holds channel old new
    (λ rests. g.met.O.Ledger.rests_synced One (file_one channel) old new rests (syncs_any new syncs)) (λ rests. g.met.G.Ledger.rests_synced Two (file_two channel) old new rests (syncs_any new syncs))
    (λ h s. by_names (λ one two. EachNow old (λ image. IsWithin (IsList (O.opens_as One one) (G.opens_as Two two) image) h s)
    → EachSince old new (λ image. IsWithin (IsList (O.opens_as One one) (G.opens_as Two two) image) h s))
    c.args.one.now c.args.two.now (file_one channel) (file_two channel) c.requires.one c.requires.two (c.reload.ensures.any_moment told h s))
    (λ found state h s none. c.channels_keep_their_lists.ensures channel found state old h s (no_slot found (IsSlotFor O.name O.form_of O.live O.count G.name G.form_of G.live G.count channel) none)) in
    record {
      reached = λ found state none stands. reached_by O.rests G.rests O.opens_as G.opens_as G.doubt O.damage G.damage O.holds G.holds channel found state old new c.in-Ok.slot
          (by_names (λ one two. IsSlotFound (O.opens_as One one) (G.opens_as Two two) (G.doubt Two two) O.holds G.holds (reads old) c.in-Ok.slot new)
          c.args.one.now c.args.two.now (file_one channel) (file_two channel) c.requires.one c.requires.two (c.in-Ok.ensures.found told))
          (by_names (λ one two. (damage : Damage) → HasDamage (O.opens_as One one) (G.opens_as Two two) (O.damage One one) (G.damage Two two) (reads old) damage → ⊥)
          c.args.one.now c.args.two.now (file_one channel) (file_two channel) c.requires.one c.requires.two (c.in-Ok.ensures.undamaged told))
          (λ h s. by_names (λ one two. EachNow old (λ image. IsWithin (IsList (O.opens_as One one) (G.opens_as Two two) image) h s)
          → IsReloaded (O.opens_as One one) (G.opens_as Two two) (G.doubt Two two) O.holds G.holds h s c.in-Ok.slot old new)
          c.args.one.now c.args.two.now (file_one channel) (file_two channel) c.requires.one c.requires.two (c.in-Ok.ensures.reloaded told h s))
          none stands;
      stays = still.0;
      leaves = still.1;
      damaged = tt;
      syncs = syncs;
    }

pub returns-in-Err-clause-loads : goal.returns-in-Err-clause-loads
returns-in-Err-clause-loads g c = λ told.
    let O = g.O.Ledger in let G = g.G.Ledger in let channel = c.args.channel.now in
    let old = g.V.Volume.disk c.args.volume.now in let new = g.V.Volume.disk c.reload.new.volume in let files = reads old in
    let syncs = by_names (λ one two. OnlySyncs (Either (O.owns one) (G.owns two)) old new)
    c.args.one.now c.args.two.now (file_one channel) (file_two channel) c.requires.one c.requires.two (c.reload.ensures.syncs told) in
    let still = load_left O.rests G.rests O.opens_as G.opens_as G.doubt O.damage G.damage O.holds G.holds channel old new
    (λ rests. g.met.O.Ledger.rests_synced One (file_one channel) old new rests (syncs_any new syncs)) (λ rests. g.met.G.Ledger.rests_synced Two (file_two channel) old new rests (syncs_any new syncs))
    (λ h s. by_names (λ one two. EachNow old (λ image. IsWithin (IsList (O.opens_as One one) (G.opens_as Two two) image) h s)
    → EachSince old new (λ image. IsWithin (IsList (O.opens_as One one) (G.opens_as Two two) image) h s))
    c.args.one.now c.args.two.now (file_one channel) (file_two channel) c.requires.one c.requires.two (c.reload.ensures.any_moment told h s))
    (λ found state h s none. c.channels_keep_their_lists.ensures channel found state old h s (no_slot found (IsSlotFor O.name O.form_of O.live O.count G.name G.form_of G.live G.count channel) none)) in
    record {
      reached = λ found state none stands. tt;
      stays = still.0;
      leaves = still.1;
      damaged = by_names (λ one two. NamesIt (HasDamage (O.opens_as One one) (G.opens_as Two two) (O.damage One one) (G.damage Two two) files) c.refused_for.result)
          c.args.one.now c.args.two.now (file_one channel) (file_two channel) c.requires.one c.requires.two
          (names_it (HasDamage (O.opens_as One c.args.one.now) (G.opens_as Two c.args.two.now) (O.damage One c.args.one.now) (G.damage Two c.args.two.now) files) c.in-Err.refused c.refused_for.result
          c.refused_for.ensures.full c.refused_for.ensures.damaged (c.in-Err.ensures.damaged told));
      syncs = syncs;
    }

pub returns-in-Err-clause-full : goal.returns-in-Err-clause-full
returns-in-Err-clause-full g c = λ is. c.refused_for.ensures.full (same_refusal c.refused_for.result Full is)

pub returns-in-Err-clause-store : goal.returns-in-Err-clause-store
returns-in-Err-clause-store g c = λ is.
    let same : c.in-Err.refused ≡ LoadStore = c.refused_for.ensures.store (same_refusal c.refused_for.result Store is) in
    c.in-Err.ensures.store (rw same refl)

pub returns-in-Err-clause-kept : goal.returns-in-Err-clause-kept
returns-in-Err-clause-kept g c = elim c.in-Err.ensures.kept [
  | inl is ↦
      let same : c.in-Err.refused ≡ LoadStore = same_refusal c.in-Err.refused LoadStore is in
      let told : c.refused_for.result ≡ Store = c.refused_for.ensures.told same in
      inl (rw told refl)
  | inr same ↦ inr same
]
