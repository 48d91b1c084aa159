use Rattle.std.proofs.Common.{List, ℕ, subst, sym}
use Rattle.std.specs.Prelude.{slice_get}
use Rattle.disk_volume.specs.Disk.{reads}
use Rattle.gated_log.proofs.Records.{IsPayloadAt, payload_read, log_payload_at}
use Rattle.gated_log.proofs.log.calls.LogLedger.read.Goals as goal

pub returns-clause-payload : goal.returns-clause-payload
returns-clause-payload g c = λ told payloads stands.
    let disk = g.V.Volume.disk c.args.volume.now in
    let P : List ℕ → Type 0 = λ name. IsPayloadAt (reads disk name) (slice_get payloads c.args.index) c.index.result.now in
    payload_read c.read_payload.result (reads disk c.as_str.result.now) (slice_get payloads c.args.index) c.index.result.now
    (subst P (sym c.as_str.ensures.value) (log_payload_at c.args.self.now payloads disk c.args.index c.index.result.now stands c.requires.index c.index.ensures))
    (c.read_payload.ensures.payload told)
