use Rattle.std.proofs.Common.{take, drop}
use Rattle.disk_volume.specs.Disk.{began}
use Rattle.disk_volume.specs.Folder.{bytes_in}
use Rattle.disk_volume.specs.Step.{replay}
use Rattle.disk_volume.proofs.PickLemmas.{AsFar, torn_so_far}
use Rattle.disk_volume.proofs.mem_volume.MemVolume.torn_files.Given as goal

abbrev pub invariant-loop-place : goal.invariant-loop-place
invariant-loop-place l = AsFar (torn_so_far l.byte (bytes_in l.self-inside.files)) (drop l.place l.self.done) (replay (began (bytes_in l.self.first)) (take l.place l.self.done)) l.files
