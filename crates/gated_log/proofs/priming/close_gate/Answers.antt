use Rattle.std.proofs.lemmas.Result.{on_ok_weaker}
use Rattle.log_format.specs.Form.{magic_of}
use Rattle.log_format.proofs.CallerLemmas.{length-magic}
use Rattle.gated_log.proofs.Crash.{closed_each, closed_holds}
use Rattle.gated_log.proofs.priming.close_gate.Goals as goal

pub returns-clause-any_moment : goal.returns-clause-any_moment
returns-clause-any_moment g c = λ told byte payloads torn held image left.
    closed_each (magic_of c.args.form) c.args.file.now c.args.gate byte payloads (g.V.Volume.disk c.args.volume.now) (image c.args.file.now) (length-magic c.args.form) torn held (c.write_synced.ensures.any_moment told image left)

pub returns-clause-ok : goal.returns-clause-ok
returns-clause-ok g c = λ told byte payloads held.
    on_ok_weaker c.write_synced.result
    (closed_holds (magic_of c.args.form) c.args.file.now c.args.gate byte payloads (g.V.Volume.disk c.args.volume.now) (g.V.Volume.disk c.write_synced.new.volume) (length-magic c.args.form) held)
    (c.write_synced.ensures.ok told)
