use Rattle.std.proofs.Common.{◌≡◌, ◌≤◌, ◌+◌, ◌-◌, ◌++◌, length, take, vec_len, vec_capacity}
use Rattle.gated_log.proofs.Indexes.{extents_by, place_behind}
use Rattle.gated_log.proofs.index.add_extents.Given as goal

abbrev pub invariant-loop-at : goal.invariant-loop-at
invariant-loop-at l = record {
  items : l.index.items ≡ l.initial.index.items ++ extents_by l.gate (take l.at l.sizes);
  place : l.place ≡ place_behind l.gate (take l.at l.sizes);
  within : l.at ≤ length l.sizes;
  len : vec_len l.index ≡ vec_len l.initial.index + l.at;
  capacity : vec_capacity l.index ≡ vec_capacity l.initial.index;
}

abbrev pub decreases-loop-at : goal.decreases-loop-at
decreases-loop-at l = length l.sizes - l.at
