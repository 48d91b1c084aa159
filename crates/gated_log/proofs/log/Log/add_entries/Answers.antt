use Rattle.std.proofs.Common.{◌≡◌, ◌+◌, ◌++◌, List, ℕ, length, refl, sym, subst, arith}
use Rattle.std.specs.Prelude.{string_bytes}
use Rattle.disk_volume.specs.Moments.{Grew, EachSince}
use Rattle.disk_volume.specs.Disk.{Disk}
use Rattle.log_format.specs.Form.{magic_of}
use Rattle.log_format.proofs.CallerLemmas.{length-magic}
use Rattle.gated_log.specs.Holds.{Holds, OpensWithin}
use Rattle.gated_log.specs.Lemmas.Laws.{holds_now, primed_holds}
use Rattle.gated_log.proofs.Appended.{appended, group_within, sizes_within}
use Rattle.gated_log.proofs.log.Log.add_entries.Goals as goal

pub add_extents-requires-clause-small : goal.add_extents-requires-clause-small
add_extents-requires-clause-small g c =
    let group = c.requires.group in sizes_within c.args.self.now c.args.bytes.now c.args.sizes.now group.0 group.1 group.2 group.3

pub invariant_of-self-clause-behind_magic : goal.invariant_of-self-clause-behind_magic
invariant_of-self-clause-behind_magic g c = omega (arith, c.args.self.now.gate.behind_magic)

pub invariant_of-self-clause-within : goal.invariant_of-self-clause-within
invariant_of-self-clause-within g c = let group = c.requires.group in group_within c.args.self.now c.args.bytes.now group.0 group.1 group.3

-- the file's name, as the call was given it
held_there : (magic name there : List ℕ) (gate : ℕ) (payloads : List (List ℕ)) (disk : Disk) → there ≡ name → Holds magic name gate 0 payloads disk → Holds magic there gate 0 payloads disk
held_there magic name there gate payloads disk same held = let P : List ℕ → Type 0 = λ file. Holds magic file gate 0 payloads disk in subst P (sym same) held

within_here : (magic name there : List ℕ) (payloads added : List (List ℕ)) (old new : Disk) → there ≡ name
    → EachSince old new (λ image. OpensWithin magic payloads added (image there)) → EachSince old new (λ image. OpensWithin magic payloads added (image name))
within_here magic name there payloads added old new same each =
    let P : List ℕ → Type 0 = λ file. EachSince old new (λ image. OpensWithin magic payloads added (image file)) in subst P same each

grew_here : (name there : List ℕ) (old new : Disk) → there ≡ name → Grew (λ (file : List ℕ). file ≡ there) old new → Grew (λ (file : List ℕ). file ≡ name) old new
grew_here name there old new same grew = let P : List ℕ → Type 0 = λ own. Grew (λ (file : List ℕ). file ≡ own) old new in subst P same grew

pub returns-in-Ok-clause-any_moment : goal.returns-in-Ok-clause-any_moment
returns-in-Ok-clause-any_moment g c = λ told payloads added stands group.
    let log = c.args.self.now in
    let name = string_bytes log.file in
    let old = g.V.Volume.disk c.args.volume.now in
    within_here (magic_of log.form) name c.as_str.result.now payloads added old (g.V.Volume.disk c.write_entries.new.volume) c.as_str.ensures.value
    (c.in-Ok.ensures.any_moment told (magic_of log.form) payloads added (length-magic log.form) group
    (held_there (magic_of log.form) name c.as_str.result.now log.gate.place payloads old c.as_str.ensures.value (primed_holds log payloads old c.requires.primed stands)))

pub returns-in-Ok-clause-ok : goal.returns-in-Ok-clause-ok
returns-in-Ok-clause-ok g c = λ told payloads added stands group sizes.
    let log = c.args.self.now in
    let name = string_bytes log.file in
    let place = log.gate.place + length c.args.bytes.now in
    let old = g.V.Volume.disk c.args.volume.now in
    let new = g.V.Volume.disk c.write_entries.new.volume in
    let P : List ℕ → Type 0 = λ file. Holds (magic_of log.form) file place 0 (payloads ++ added) new in
    appended log _ place payloads added old new c.requires.primed stands refl refl refl refl refl (c.add_extents.ensures.added added sizes)
    (subst P c.as_str.ensures.value (c.in-Ok.ensures.ok told (magic_of log.form) payloads added (length-magic log.form) group
    (held_there (magic_of log.form) name c.as_str.result.now log.gate.place payloads old c.as_str.ensures.value (primed_holds log payloads old c.requires.primed stands))))

pub returns-in-Ok-clause-on_disk : goal.returns-in-Ok-clause-on_disk
returns-in-Ok-clause-on_disk g c = λ told payloads added stands group sizes.
    holds_now _ (payloads ++ added) (g.V.Volume.disk c.write_entries.new.volume) (returns-in-Ok-clause-ok g c told payloads added stands group sizes)

pub returns-in-Ok-clause-files : goal.returns-in-Ok-clause-files
returns-in-Ok-clause-files g c = λ told.
    grew_here (string_bytes c.args.self.now.file) c.as_str.result.now (g.V.Volume.disk c.args.volume.now) (g.V.Volume.disk c.write_entries.new.volume) c.as_str.ensures.value (c.in-Ok.ensures.files told)

pub returns-in-Err-clause-any_moment : goal.returns-in-Err-clause-any_moment
returns-in-Err-clause-any_moment g c = λ told payloads added stands group.
    let log = c.args.self.now in
    let name = string_bytes log.file in
    let old = g.V.Volume.disk c.args.volume.now in
    within_here (magic_of log.form) name c.as_str.result.now payloads added old (g.V.Volume.disk c.write_entries.new.volume) c.as_str.ensures.value
    (c.in-Err.ensures.any_moment told (magic_of log.form) payloads added (length-magic log.form) group
    (held_there (magic_of log.form) name c.as_str.result.now log.gate.place payloads old c.as_str.ensures.value (primed_holds log payloads old c.requires.primed stands)))

pub returns-in-Err-clause-files : goal.returns-in-Err-clause-files
returns-in-Err-clause-files g c = λ told.
    grew_here (string_bytes c.args.self.now.file) c.as_str.result.now (g.V.Volume.disk c.args.volume.now) (g.V.Volume.disk c.write_entries.new.volume) c.as_str.ensures.value (c.in-Err.ensures.files told)
