use Rattle.std.proofs.Common.{◌≡◌, ℕ, List, take}
use Rattle.keeper_channel.specs.Entries.{AreEntries}
use Rattle.keeper_channel.specs.Logs.{IsLive}
use Rattle.keeper_channel.proofs.checking.check_entries.Given as goal

abbrev pub invariant-loop-place : goal.invariant-loop-place
invariant-loop-place g l = let V = g.V.Volume in record {
  so_far : V.tells → (doubt : (List ℕ → List ℕ) → List (List ℕ)) (held suspense : List (List ℕ)) → IsLive g.O.Ledger.holds g.G.Ledger.holds doubt l.logs held suspense (V.disk l.fn.volume)
      → AreEntries (take l.place held);
  disk : V.tells → V.disk l.volume ≡ V.disk l.fn.volume;
  follows : V.follows l.fn.volume l.volume;
  faults : V.faults l.volume ≡ V.faults l.fn.volume;
}
