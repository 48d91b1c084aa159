use Rattle.std.proofs.Common.{refl}
use Rattle.disk_volume.specs.Disk.{reads}
use Rattle.disk_volume.specs.Moments.{still}
use Rattle.disk_volume.specs.Lemmas.Since.{now_alone}
use Rattle.log_format.specs.declared.form.TheConstants.{MAGIC_TWO}
use Rattle.gated_log.proofs.Cuts.{front_rest, front_opens}
use Rattle.gated_log.proofs.log.calls.LogLedger.restart.Goals as goal

pub returns-in_err-name-clause-any_moment : goal.returns-in_err-name-clause-any_moment
returns-in_err-name-clause-any_moment g c = λ told payloads opened image left.
    let disk = g.V.Volume.disk c.args.volume.now in
    let name = c.args.file.now in
    front_opens MAGIC_TWO (reads disk name) (image name) payloads refl opened (front_rest name disk (reads disk name) (c.requires told) image (now_alone disk image left))

pub returns-in_err-name-clause-files : goal.returns-in_err-name-clause-files
returns-in_err-name-clause-files g c = λ told. still

pub returns-in_err-empty_file-clause-any_moment : goal.returns-in_err-empty_file-clause-any_moment
returns-in_err-empty_file-clause-any_moment g c = λ told payloads opened image left.
    front_opens MAGIC_TWO (reads (g.V.Volume.disk c.args.volume.now) c.args.file.now) (image c.args.file.now) payloads refl opened (c.in_err-empty_file.ensures.any_moment told image left)

pub returns-clause-any_moment : goal.returns-clause-any_moment
returns-clause-any_moment g c = λ told payloads opened image left.
    front_opens MAGIC_TWO (reads (g.V.Volume.disk c.args.volume.now) c.args.file.now) (image c.args.file.now) payloads refl opened (c.in_ok-empty_file.ensures.any_moment told image left)
