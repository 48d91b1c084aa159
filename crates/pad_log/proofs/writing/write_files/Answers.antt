use Rattle.std.proofs.Common.{◌≡◌, inl, inr, ℕ, List, IsTrue, refl, sym, subst}
use Rattle.std.proofs.lemmas.Result.{on_ok_weaker, on_err_weaker}
use Rattle.disk_volume.specs.Disk.{Disk, reads}
use Rattle.disk_volume.specs.Moments.{OnlySyncs}
use Rattle.log_format.specs.declared.damage.Damage.{Damage}
use Rattle.log_format.specs.declared.form.Form.TheVariants.{One, Two}
use Rattle.keeper_channel.specs.Chan.{IsList}
use Rattle.keeper_channel.specs.Disks.{Either}
use Rattle.keeper_channel.specs.Slot.{HasDamage}
use Rattle.keeper_channel.proofs.CallerLemmas.{checked_weaker}
use Rattle.keeper_table.specs.Files.{file_one, file_two, OfChannel}
use Rattle.gated_log.specs.declared.refused.LoadRefused.TheVariants.{Store as LoadStore}
use Rattle.std.specs.Io.{StartsWith}
use Rattle.pad_log.specs.Channel.{IsListOf}
use Rattle.pad_log.specs.Lines.{log_text}
use Rattle.pad_log.specs.Log.{OfEachHeld}
use Rattle.pad_log.proofs.CallerLemmas.{text_weaker, part_weaker}
use Rattle.pad_log.specs.declared.refused.LogRefused.TheVariants.{Store, Write, Damaged as LogDamaged}
use Rattle.pad_log.proofs.Written.{by_names, names_damage, same_refusal}
use Rattle.pad_log.proofs.writing.write_files.Goals as goal

pub load_checked-requires : goal.load_checked-requires
load_checked-requires g c = record {
  apart = λ file owned_two owned_one.
      c.requires.apart file (subst (λ (n : List ℕ). g.G.Ledger.owns n file) c.requires.two owned_two) (subst (λ (n : List ℕ). g.O.Ledger.owns n file) c.requires.one owned_one);
}

pub write_log-requires-clause-live : goal.write_log-requires-clause-live
write_log-requires-clause-live g c =
    let O = g.O.Ledger in let G = g.G.Ledger in
    checked_weaker (λ log. (O.name log ≡ c.args.one.now) × (O.form_of log ≡ One) × IsTrue (O.live log)) (λ log. IsTrue (O.live log))
    (λ log. (G.name log ≡ c.args.two.now) × (G.form_of log ≡ Two) × IsTrue (G.live log)) (λ log. IsTrue (G.live log)) O.count G.count c.in-Ok.checked
    (λ log is. is.2) (λ log is. is.2) c.in-Ok.ensures.made

pub write_log-requires-clause-channel : goal.write_log-requires-clause-channel
write_log-requires-clause-channel g c = λ told. let found = c.in-Ok.ensures.found told in (g.G.Ledger.doubt Two c.args.two.now, found.0, found.1, found.3)

pub returns-in-Ok-clause-whole : goal.returns-in-Ok-clause-whole
returns-in-Ok-clause-whole g c =
    let O = g.O.Ledger in let G = g.G.Ledger in let files = reads (g.V.Volume.disk c.args.volume.now) in
    let each = OfEachHeld O.holds G.holds c.in-Ok.checked (g.V.Volume.disk c.load_checked.new.volume) in
    let is_list = IsListOf O.opens_as G.opens_as O.damage G.damage c.args.channel.now files in
    on_ok_weaker c.write_log.result
    (text_weaker g.V.Volume.tells (λ list. each (λ held. list ≡ held)) is_list (g.S.Sink.written c.args.output.now) (g.S.Sink.written c.write_log.new.output) (λ told list same.
    let found = c.in-Ok.ensures.found told in
    let listed = by_names (λ one two. IsList (O.opens_as One one) (G.opens_as Two two) files found.0
    × ((damage : Damage) → HasDamage (O.opens_as One one) (G.opens_as Two two) (O.damage One one) (G.damage Two two) files damage → ⊥))
    c.args.one.now c.args.two.now (file_one c.args.channel.now) (file_two c.args.channel.now) c.requires.one c.requires.two
    ((found.2.two, found.2.opened, found.2.is), c.in-Ok.ensures.undamaged told) in
    subst is_list (sym (same (G.doubt Two c.args.two.now) found.0 found.1 found.3)) listed)) c.write_log.ensures.whole

pub returns-in-Ok-clause-part : goal.returns-in-Ok-clause-part
returns-in-Ok-clause-part g c =
    let O = g.O.Ledger in let G = g.G.Ledger in let files = reads (g.V.Volume.disk c.args.volume.now) in
    let each = OfEachHeld O.holds G.holds c.in-Ok.checked (g.V.Volume.disk c.load_checked.new.volume) in
    let is_list = IsListOf O.opens_as G.opens_as O.damage G.damage c.args.channel.now files in
    on_err_weaker c.write_log.result (λ written. inr
    (part_weaker g.V.Volume.tells (λ part. each (λ held. StartsWith (log_text held) part)) (λ part. (list : List (List ℕ)) × is_list list × StartsWith (log_text list) part)
    (g.S.Sink.written c.args.output.now) (g.S.Sink.written c.write_log.new.output) (λ told part starts.
    let found = c.in-Ok.ensures.found told in
    let listed = by_names (λ one two. IsList (O.opens_as One one) (G.opens_as Two two) files found.0
    × ((damage : Damage) → HasDamage (O.opens_as One one) (G.opens_as Two two) (O.damage One one) (G.damage Two two) files damage → ⊥))
    c.args.one.now c.args.two.now (file_one c.args.channel.now) (file_two c.args.channel.now) c.requires.one c.requires.two
    ((found.2.two, found.2.opened, found.2.is), c.in-Ok.ensures.undamaged told) in
    (found.0, listed, starts (G.doubt Two c.args.two.now) found.0 found.1 found.3)) written)) c.write_log.ensures.part

pub returns-in-Ok-clause-damaged : goal.returns-in-Ok-clause-damaged
returns-in-Ok-clause-damaged g c = λ told damage is. absurd (c.write_log.ensures.sound told damage is)

pub returns-in-Ok-clause-spoiled : goal.returns-in-Ok-clause-spoiled
returns-in-Ok-clause-spoiled g c = λ told damage is.
    let O = g.O.Ledger in let G = g.G.Ledger in let files = reads (g.V.Volume.disk c.args.volume.now) in
    absurd (by_names (λ one two. (damage : Damage) → HasDamage (O.opens_as One one) (G.opens_as Two two) (O.damage One one) (G.damage Two two) files damage → ⊥)
    c.args.one.now c.args.two.now (file_one c.args.channel.now) (file_two c.args.channel.now) c.requires.one c.requires.two (c.in-Ok.ensures.undamaged told) damage is)

pub returns-in-Ok-clause-syncs : goal.returns-in-Ok-clause-syncs
returns-in-Ok-clause-syncs g c = λ told.
    let O = g.O.Ledger in let G = g.G.Ledger in let old = g.V.Volume.disk c.args.volume.now in
    subst (λ (d : Disk). OnlySyncs (OfChannel O.owns G.owns c.args.channel.now) old d) (sym (c.write_log.ensures.disk told))
    (by_names (λ one two. OnlySyncs (Either (O.owns one) (G.owns two)) old (g.V.Volume.disk c.load_checked.new.volume))
    c.args.one.now c.args.two.now (file_one c.args.channel.now) (file_two c.args.channel.now) c.requires.one c.requires.two (c.load_checked.ensures.syncs told))

-- the load was refused, and nothing was written
pub returns-in-Err-clause-part : goal.returns-in-Err-clause-part
returns-in-Err-clause-part g c = inl refl

pub returns-in-Err-clause-damaged : goal.returns-in-Err-clause-damaged
returns-in-Err-clause-damaged g c = λ told damage is.
    let O = g.O.Ledger in let G = g.G.Ledger in let files = reads (g.V.Volume.disk c.args.volume.now) in
    by_names (λ one two. HasDamage (O.opens_as One one) (G.opens_as Two two) (O.damage One one) (G.damage Two two) files damage)
    c.args.one.now c.args.two.now (file_one c.args.channel.now) (file_two c.args.channel.now) c.requires.one c.requires.two
    (names_damage (HasDamage (O.opens_as One c.args.one.now) (G.opens_as Two c.args.two.now) (O.damage One c.args.one.now) (G.damage Two c.args.two.now) files) c.in-Err.refused damage
    (c.refused_for.ensures.damaged damage (same_refusal c.refused_for.result (LogDamaged damage) is)) (c.in-Err.ensures.damaged told))

pub returns-in-Err-clause-spoiled : goal.returns-in-Err-clause-spoiled
returns-in-Err-clause-spoiled g c = λ told damage is. (tt, λ write. c.refused_for.ensures.write (same_refusal c.refused_for.result Write write), refl)

pub returns-in-Err-clause-syncs : goal.returns-in-Err-clause-syncs
returns-in-Err-clause-syncs g c = λ told.
    let O = g.O.Ledger in let G = g.G.Ledger in
    by_names (λ one two. OnlySyncs (Either (O.owns one) (G.owns two)) (g.V.Volume.disk c.args.volume.now) (g.V.Volume.disk c.load_checked.new.volume))
    c.args.one.now c.args.two.now (file_one c.args.channel.now) (file_two c.args.channel.now) c.requires.one c.requires.two (c.load_checked.ensures.syncs told)

pub returns-in-Err-clause-store : goal.returns-in-Err-clause-store
returns-in-Err-clause-store g c = λ is.
    let same : c.in-Err.refused ≡ LoadStore = c.refused_for.ensures.store (same_refusal c.refused_for.result Store is) in
    c.in-Err.ensures.store (rw same refl)

pub returns-in-Err-clause-kept : goal.returns-in-Err-clause-kept
returns-in-Err-clause-kept g c = elim c.in-Err.ensures.kept [
  | inl is ↦
      let same : c.in-Err.refused ≡ LoadStore = same_refusal c.in-Err.refused LoadStore is in
      let told : c.refused_for.result ≡ Store = c.refused_for.ensures.told same in
      inl (rw told refl)
  | inr same ↦ inr same
]

pub returns-in-Err-clause-write : goal.returns-in-Err-clause-write
returns-in-Err-clause-write g c = λ write. absurd (c.refused_for.ensures.write (same_refusal c.refused_for.result Write write))
