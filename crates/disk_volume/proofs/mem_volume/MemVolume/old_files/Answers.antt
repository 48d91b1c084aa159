use Rattle.std.proofs.Common.{◌-◌, length, take, drop, rules, arith, sym, ◌∙◌}
use Rattle.std.proofs.lemmas.Grind.{common_steps}
use Rattle.disk_volume.specs.Disk.{began}
use Rattle.disk_volume.specs.Folder.{bytes_in}
use Rattle.disk_volume.proofs.PickLemmas.{old_apply, old_skip}
use Rattle.disk_volume.proofs.mem_volume.MemVolume.old_files.Goals as goal
use Rattle.disk_volume.proofs.mem_volume.MemVolume.old_files.Goals.{then-is_synced+in_ok-apply, else-is_synced}

pub loop-place-preserved : goal.loop-place-preserved
loop-place-preserved c = elim c.if-is_synced.branch [
  | then-is_synced+in_ok-apply w ↦
      rw w.files-is (old_apply (began (bytes_in c.args.self.now.first)) c.args.self.now.done c.loop-place.place c.done-item.result c.file.result.now (take (length c.deref.result.now - c.loop-place.place) (drop c.loop-place.place c.deref.result.now)) c.loop-place.files w.apply.new.self
      (search rules) (search rules) c.file.ensures (grind (arith, common_steps)) (sym c.is_synced.ensures ∙ w.if-is_synced.true) w.in_ok-apply.ensures.ok c.loop-place.invariant)
  | else-is_synced w ↦
      rw w.files-is (old_skip (began (bytes_in c.args.self.now.first)) c.args.self.now.done c.loop-place.place c.done-item.result c.file.result.now (take (length c.deref.result.now - c.loop-place.place) (drop c.loop-place.place c.deref.result.now)) c.loop-place.files
      (search rules) (search rules) c.file.ensures (grind (arith, common_steps)) (sym c.is_synced.ensures ∙ w.if-is_synced.false) c.loop-place.invariant)
]
