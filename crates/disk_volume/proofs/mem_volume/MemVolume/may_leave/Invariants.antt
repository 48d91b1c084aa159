use Rattle.std.proofs.Common.{◌≡◌, take}
use Rattle.disk_volume.specs.Disk.{began, file_at}
use Rattle.disk_volume.specs.Folder.{bytes_in}
use Rattle.disk_volume.specs.Step.{replay}
use Rattle.disk_volume.proofs.mem_volume.MemVolume.may_leave.Given as goal

abbrev pub invariant-loop-done : goal.invariant-loop-done
invariant-loop-done l = l.pending ≡ file_at (replay (began (bytes_in l.self.first)) (take l.done-index l.self.done)) l.file
