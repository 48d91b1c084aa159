use Rattle.std.proofs.Common.{◌≡◌, ◌++◌, ◌∷◌, [], rules}
use Rattle.disk_volume.specs.Disk.{began}
use Rattle.disk_volume.specs.Folder.{bytes_in}
use Rattle.disk_volume.specs.Lemmas.Replay.{reads_more}
use Rattle.disk_volume.proofs.mem_volume.MemVolume.carry_out.Goals as goal

pub invariant_of-self-2 : goal.invariant_of-self-2
invariant_of-self-2 c =
    let pushed : c.push.new.self.items ≡ c.self.inside.done.items ++ c.new-done.result ∷ [] = search rules in
    rw pushed (reads_more (began (bytes_in c.self.inside.first)) c.self.inside.done.items c.new-done.result c.self.inside.files c.apply.new.self c.self.invariant (search rules))
