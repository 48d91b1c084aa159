use Rattle.std.proofs.lemmas.Result.{on_ok_weaker}
use Rattle.disk_volume.specs.Lemmas.Since.{grew_then}
use Rattle.log_format.proofs.CallerLemmas.{group_size}
use Rattle.gated_log.proofs.Crash.{before_entry, through_entries, framed, opened_holds}
use Rattle.gated_log.proofs.entry.write_entries.Goals as goal

pub returns-clause-any_moment : goal.returns-clause-any_moment
returns-clause-any_moment g c = λ told magic payloads added eight group held.
    through_entries magic c.args.file.now c.args.gate c.args.bytes.now payloads added _ _ _ eight held group
    (c.write_synced-2.ensures.files told) (c.in_ok-write_synced.ensures.any_moment told) (c.in_ok-write_synced.ensures.ok told) (c.write_synced-2.ensures.any_moment told)

pub returns-clause-ok : goal.returns-clause-ok
returns-clause-ok g c = λ told magic payloads added eight group held.
    let stands = framed magic c.args.file.now c.args.gate c.args.bytes.now payloads added _ _ eight held group (c.in_ok-write_synced.ensures.ok told) in
    on_ok_weaker c.write_synced-2.result
    (opened_holds magic c.args.file.now c.args.gate _ payloads added (g.V.Volume.disk c.write_synced.new.volume) (g.V.Volume.disk c.write_synced-2.new.volume) eight stands (group_size c.args.bytes.now added group))
    (c.write_synced-2.ensures.ok told)

pub returns-clause-files : goal.returns-clause-files
returns-clause-files g c = λ told. grew_then _ (c.in_ok-write_synced.ensures.files told) (c.write_synced-2.ensures.files told)

pub returns-in_err-write_synced-clause-any_moment : goal.returns-in_err-write_synced-clause-any_moment
returns-in_err-write_synced-clause-any_moment g c = λ told magic payloads added eight group held.
    before_entry magic c.args.file.now c.args.gate _ added payloads _ _ eight held (c.in_err-write_synced.ensures.any_moment told)
