use Rattle.std.proofs.lemmas.Result.{IfOk-weaker}
use Rattle.disk_volume.specs.Disk.{reads, IsImage}
use Rattle.disk_volume.specs.Memory.{disk_of}
use Rattle.disk_volume.proofs.RecordLemmas.{left_possible}
use Rattle.disk_volume.proofs.mem_volume.MemVolume.image.Goals as goal

pub returns-clause-possible : goal.returns-clause-possible
returns-clause-possible c =
    IfOk-weaker c.of_files.result _ (λ image. IsImage (disk_of c.args.self.now) (reads (disk_of image)))
    (left_possible c.args.self.now c.in_ok-left_files.field-0 c.in_ok-left_files.ensures) c.of_files.ensures
