use Rattle.std.proofs.Common.{◌<◌, ℕ, slice_index}
use Rattle.disk_volume.specs.Inside.Pending.{MayHold}
use Rattle.disk_volume.proofs.pending.Pending.may_leave.Given as goal

abbrev pub invariant-loop-place : goal.invariant-loop-place
invariant-loop-place l = (place : ℕ) → place < l.place → MayHold l.self place (slice_index l.bytes place)
