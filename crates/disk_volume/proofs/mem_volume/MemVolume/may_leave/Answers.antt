use Rattle.std.proofs.Common.{◌≡◌, true, false, bytes_eq, rules, sym, ◌∙◌, ap}
use Rattle.disk_volume.specs.Disk.{began, File, after}
use Rattle.disk_volume.specs.Folder.{bytes_in}
use Rattle.disk_volume.specs.Step.{act_of}
use Rattle.disk_volume.proofs.PickLemmas.{file_on, file_off}
use Rattle.disk_volume.proofs.mem_volume.MemVolume.may_leave.Goals as goal
use Rattle.disk_volume.proofs.mem_volume.MemVolume.may_leave.Goals.{then-eq+in_ok-pending-2, else-eq}

pub loop-done-preserved : goal.loop-done-preserved
loop-done-preserved c = elim c.if-eq.branch [
  | then-eq+in_ok-pending-2 w ↦
      let here : bytes_eq c.done-item.result.0 c.args.file.now ≡ true = search rules in
      w.pending-is ∙ w.in_ok-pending-2.ensures
      ∙ ap (λ (f : File). after (act_of c.done-item.result.1 f.now) f) c.loop-done.invariant
      ∙ sym (file_on (began (bytes_in c.args.self.now.first)) c.args.self.now.done c.loop-done.done-index c.done-item.result c.args.file.now (search rules) (search rules) here)
  | else-eq w ↦
      let elsewhere : bytes_eq c.done-item.result.0 c.args.file.now ≡ false = search rules in
      w.pending-is ∙ c.loop-done.invariant
      ∙ sym (file_off (began (bytes_in c.args.self.now.first)) c.args.self.now.done c.loop-done.done-index c.done-item.result c.args.file.now (search rules) (search rules) elsewhere)
]
