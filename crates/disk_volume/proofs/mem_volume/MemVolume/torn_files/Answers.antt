use Rattle.std.proofs.Common.{◌≡◌, ◌-◌, length, take, drop, rules, arith, sym, subst, ◌∙◌}
use Rattle.std.proofs.lemmas.Grind.{common_steps}
use Rattle.disk_volume.specs.Disk.{began}
use Rattle.disk_volume.specs.Folder.{bytes_in}
use Rattle.disk_volume.proofs.PickLemmas.{AsFar, torn_so_far, torn_start, torn_tear, torn_skip}
use Rattle.disk_volume.proofs.mem_volume.MemVolume.torn_files.Goals as goal
use Rattle.disk_volume.proofs.mem_volume.MemVolume.torn_files.Goals.{then-not-is_synced, else-not-is_synced}

pub loop-place-init : goal.loop-place-init
loop-place-init c =
    let same : c.in_ok-files.files ≡ c.self.inside.files = search rules in
    subst (AsFar (torn_so_far c.args.byte (bytes_in c.self.inside.files)) c.args.self.now.done (began (bytes_in c.args.self.now.first))) (sym same)
    (torn_start c.args.byte c.args.self.now.first c.self.inside.files c.args.self.now.done)

pub loop-place-preserved : goal.loop-place-preserved
loop-place-preserved c = elim c.if-not-is_synced.branch [
  | then-not-is_synced w ↦
      rw w.files-is (torn_tear c.args.byte (bytes_in c.self.inside.files) (began (bytes_in c.args.self.now.first)) c.args.self.now.done c.loop-place.place c.done-item.result c.file.result.now
      (take (length c.deref.result.now - c.loop-place.place) (drop c.loop-place.place c.deref.result.now)) c.loop-place.files w.tear.new.self
      (search rules) (search rules) c.file.ensures (grind (arith, common_steps)) (sym c.is_synced.ensures ∙ w.if-not-is_synced.true) w.tear.ensures c.loop-place.invariant)
  | else-not-is_synced w ↦
      rw w.files-is (torn_skip c.args.byte (bytes_in c.self.inside.files) (began (bytes_in c.args.self.now.first)) c.args.self.now.done c.loop-place.place c.done-item.result c.file.result.now
      (take (length c.deref.result.now - c.loop-place.place) (drop c.loop-place.place c.deref.result.now)) c.loop-place.files
      (search rules) (search rules) c.file.ensures (grind (arith, common_steps)) (sym c.is_synced.ensures ∙ w.if-not-is_synced.false) c.loop-place.invariant)
]
