use Rattle.std.proofs.Common.{◌≡◌, ◌-◌}
use Rattle.gated_log.specs.Inside.Walked.{IsInside}
use Rattle.gated_log.proofs.Walks.{IsWithin}
use Rattle.gated_log.proofs.walking.go_over.Given as goal

abbrev pub invariant-loop-walk : goal.invariant-loop-walk
invariant-loop-walk l = record {
  so_far : IsWithin l.piece l.from l.walk.end l.walk.gate l.initial.index.items l.index.items;
  inside : IsInside l.walk;
  end : l.walk.end ≡ l.initial.walk.end;
}

abbrev pub decreases-loop-walk : goal.decreases-loop-walk
decreases-loop-walk l = l.walk.end - l.walk.gate
