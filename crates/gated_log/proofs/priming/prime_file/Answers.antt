use Rattle.std.proofs.Common.{Bool, inl, subst}
use Rattle.disk_volume.specs.Moments.{still}
use Rattle.disk_volume.specs.Lemmas.Since.{now_alone}
use Rattle.gated_log.specs.Lemmas.Laws.{file_now}
use Rattle.gated_log.specs.Log.{HoldsFile}
use Rattle.gated_log.proofs.priming.prime_file.Goals as goal

pub returns-then-byte-eq0-clause-any_moment : goal.returns-then-byte-eq0-clause-any_moment
returns-then-byte-eq0-clause-any_moment g c = λ told payloads held image left.
    let disk = g.V.Volume.disk c.args.volume.now in
    inl (file_now c.args.form c.args.short c.args.file.now c.args.gate c.args.byte payloads disk held image (now_alone disk image left))

pub returns-then-byte-eq0-clause-files : goal.returns-then-byte-eq0-clause-files
returns-then-byte-eq0-clause-files g c = λ told. still

pub returns-clause-any_moment : goal.returns-clause-any_moment
returns-clause-any_moment g c = λ told payloads held.
    let P : Bool → Type 0 = λ short. HoldsFile c.args.form short c.args.file.now c.args.gate c.args.byte payloads (g.V.Volume.disk c.args.volume.now) in
    c.close_gate.ensures.any_moment told c.args.byte payloads c.if-byte-eq0.false (subst P c.if-short.false held)
