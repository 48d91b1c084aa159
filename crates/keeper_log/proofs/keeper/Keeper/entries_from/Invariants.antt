use Rattle.std.proofs.Common.{◌≡◌, ◌+◌, ℕ, List, take, drop}
use Rattle.keeper_state.specs.Entries.{entries_from}
use Rattle.keeper_state.specs.State.{live, StandsFor}
use Rattle.keeper_table.specs.Table.{channel_in}
use Rattle.keeper_log.proofs.keeper.Keeper.entries_from.Given as goal

abbrev pub invariant-loop-index : goal.invariant-loop-index
invariant-loop-index g l = let V = g.V.Volume in let O = g.O.Ledger in let G = g.G.Ledger in record {
  same : l.self ≡ l.fn.self;
  so_far : V.tells → (held suspense : List (List ℕ))
      → StandsFor O.rests G.rests O.opens_as G.opens_as G.doubt O.holds G.holds l.channel (channel_in l.fn.self.table l.channel) (live held suspense) (V.disk l.fn.volume)
      → (n : ℕ) × (l.first + n ≡ l.index) × (l.entries.items ≡ entries_from l.first (take n (drop l.first held)));
  disk : V.tells → V.disk l.volume ≡ V.disk l.fn.volume;
  follows : V.follows l.fn.volume l.volume;
  faults : V.faults l.volume ≡ V.faults l.fn.volume;
}
