use Rattle.std.proofs.Common.{◌≡◌, ◌*◌, ◌≤◌, ℕ, List, take}
use Rattle.log_format.specs.declared.frame.TheConstants.{LONGEST_PAYLOAD}
use Rattle.keeper_entry.specs.Index.{IsIndex}
use Rattle.keeper_channel.specs.Entries.{AreEntries}
use Rattle.keeper_channel.specs.Logs.{IsLive}
use Rattle.keeper_channel.proofs.indexing.index_entries.Given as goal

abbrev pub invariant-loop-place : goal.invariant-loop-place
invariant-loop-place g l = let V = g.V.Volume in record {
  count : l.index.count ≡ l.place;
  small : l.index.bytes ≤ l.place * LONGEST_PAYLOAD;
  indexed : (payloads : List (List ℕ)) × IsIndex l.index payloads;
  so_far : V.tells → (doubt : (List ℕ → List ℕ) → List (List ℕ)) (held suspense : List (List ℕ)) → IsLive g.O.Ledger.holds g.G.Ledger.holds doubt l.logs held suspense (V.disk l.fn.volume)
      → IsIndex l.index (take l.place held) × AreEntries (take l.place held);
  disk : V.tells → V.disk l.volume ≡ V.disk l.fn.volume;
  follows : V.follows l.fn.volume l.volume;
  faults : V.faults l.volume ≡ V.faults l.fn.volume;
}
