use Rattle.std.proofs.Common.{◌≡◌, false, List, ℕ, subst, sym}
use Rattle.std.specs.Prelude.{string_bytes}
use Rattle.disk_volume.specs.Moments.{Grew}
use Rattle.gated_log.specs.Lemmas.Laws.{file_now}
use Rattle.gated_log.specs.Log.{HoldsFile}
use Rattle.gated_log.proofs.log.calls.LogLedger.prime.Goals as goal

pub returns-in-Ok-clause-on_disk : goal.returns-in-Ok-clause-on_disk
returns-in-Ok-clause-on_disk g c = λ told payloads stands.
    let log = c.args.self.now in
    let name = string_bytes log.file in
    let P : List ℕ → Type 0 = λ name. HoldsFile log.form log.short name log.gate.place log.gate.byte payloads (g.V.Volume.disk c.args.volume.now) in
    let Q : List ℕ → Type 0 = λ name. HoldsFile log.form false name log.gate.place 0 payloads (g.V.Volume.disk c.prime_file.new.volume) in
    let held = c.in-Ok.ensures.ok told payloads (subst P (sym c.as_str.ensures.value) stands.file) in
    file_now log.form false name log.gate.place 0 payloads (g.V.Volume.disk c.prime_file.new.volume) (subst Q c.as_str.ensures.value held)

pub returns-in-Ok-clause-files : goal.returns-in-Ok-clause-files
returns-in-Ok-clause-files g c = λ told.
    let P : List ℕ → Type 0 = λ name. Grew (λ (file : List ℕ). file ≡ name) (g.V.Volume.disk c.args.volume.now) (g.V.Volume.disk c.prime_file.new.volume) in
    subst P c.as_str.ensures.value (c.in-Ok.ensures.files told)

pub returns-in-Err-clause-files : goal.returns-in-Err-clause-files
returns-in-Err-clause-files g c = λ told.
    let P : List ℕ → Type 0 = λ name. Grew (λ (file : List ℕ). file ≡ name) (g.V.Volume.disk c.args.volume.now) (g.V.Volume.disk c.prime_file.new.volume) in
    subst P c.as_str.ensures.value (c.in-Err.ensures.files told)
