use Rattle.std.proofs.Common.{◌≡◌, ◌+◌, ◌-◌, ◌≤◌, length, take, drop, reverse}
use Rattle.pad_branch.specs.Undo.{Rewinds, undone}
use Rattle.pad_branch.proofs.rewind.rewound.Given as goal

abbrev pub decreases-loop-at : goal.decreases-loop-at
decreases-loop-at g l = l.at

abbrev pub invariant-loop-at : goal.invariant-loop-at
invariant-loop-at g l = record {
  high : l.at ≤ length l.undos;
  low : l.keep ≤ l.at;
  units : g.S.UnitStore.units l.after ≡ undone (take (length l.undos - l.at) (reverse l.undos)) (g.S.UnitStore.units l.text);
  rewinds : Rewinds l.root l.low (drop (length l.undos - l.at) (reverse l.undos)) (g.S.UnitStore.units l.after);
  taken : l.steps ≡ l.initial.steps + (length l.undos - l.at);
}
