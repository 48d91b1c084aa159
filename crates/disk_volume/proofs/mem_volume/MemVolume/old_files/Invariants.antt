use Rattle.std.proofs.Common.{take, drop}
use Rattle.disk_volume.specs.Disk.{began}
use Rattle.disk_volume.specs.Folder.{bytes_in}
use Rattle.disk_volume.specs.Step.{replay}
use Rattle.disk_volume.proofs.PickLemmas.{AsFar, old_so_far}
use Rattle.disk_volume.proofs.mem_volume.MemVolume.old_files.Given as goal

abbrev pub invariant-loop-place : goal.invariant-loop-place
invariant-loop-place l = AsFar old_so_far (drop l.place l.self.done) (replay (began (bytes_in l.self.first)) (take l.place l.self.done)) l.files
