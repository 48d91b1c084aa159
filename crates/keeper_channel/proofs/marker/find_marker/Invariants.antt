use Rattle.std.proofs.Common.{◌≡◌, ℕ, List, take, false}
use Rattle.keeper_channel.specs.Chan.{has_marker}
use Rattle.keeper_channel.proofs.marker.find_marker.Given as goal

abbrev pub invariant-loop-index : goal.invariant-loop-index
invariant-loop-index g l = let V = g.V.Volume in record {
  disk : V.tells → V.disk l.volume ≡ V.disk l.fn.volume;
  none : V.tells → (payloads : List (List ℕ)) → g.G.Ledger.holds l.log payloads (V.disk l.fn.volume) → has_marker (take l.index payloads) ≡ false;
  follows : V.follows l.fn.volume l.volume;
  faults : V.faults l.volume ≡ V.faults l.fn.volume;
}
