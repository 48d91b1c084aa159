use Rattle.std.proofs.Common.{◌≡◌, ◌≤◌, ◌+◌, ◌*◌, ◌-◌, ℕ, length, take}
use Rattle.disk_volume.specs.Disk.{reads}
use Rattle.gated_log.specs.Inside.Walked.{IsInside, IsGoing}
use Rattle.gated_log.proofs.walking.go_through.Given as goal

abbrev pub invariant-loop-next : goal.invariant-loop-next
invariant-loop-next g l = record {
  inside : IsInside l.walk;
  within : l.walk.end ≤ l.initial.walk.end;
  forward : l.initial.walk.gate ≤ l.walk.gate;
  buffer : length l.piece ≡ 65536;
  faults : g.V.Volume.faults l.volume ≡ g.V.Volume.faults l.initial.volume;
  follows : g.V.Volume.follows l.initial.volume l.volume;
  calls : ℕ;
  clock : g.V.Volume.clock l.volume ≤ g.V.Volume.clock l.initial.volume + calls;
  passed : l.initial.walk.gate + 65532 * calls ≤ l.walk.gate;
  disk : g.V.Volume.tells → g.V.Volume.disk l.volume ≡ g.V.Volume.disk l.initial.volume;
  going : g.V.Volume.tells → (end : ℕ) → IsGoing (take end (reads (g.V.Volume.disk l.initial.volume) l.file)) end l.initial.walk l.initial.index.items
      → IsGoing (take end (reads (g.V.Volume.disk l.initial.volume) l.file)) end l.walk l.index.items;
}

abbrev pub decreases-loop-next : goal.decreases-loop-next
decreases-loop-next g l = l.walk.end - l.walk.gate
