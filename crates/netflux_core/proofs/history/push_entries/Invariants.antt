use Rattle.std.proofs.Common.{◌≡◌, ◌≤◌, ◌+◌, ◌*◌, ◌++◌, ℕ, List, length}
use Rattle.keeper_table.specs.declared.entry.Entry.{Entry}
use Rattle.keeper_state.specs.State.{live}
use Rattle.netflux_core.specs.Channels.{Channels, IsNow}
use Rattle.netflux_core.specs.Histories.{channel_of, tell_entries}
use Rattle.netflux_core.proofs.Telling.{told_at}
use Rattle.netflux_core.proofs.history.push_entries.Given as goal

-- What is told so far, and the entries from here on, are what is to be told.
abbrev pub invariant-loop-index : goal.invariant-loop-index
invariant-loop-index g l = let V = g.V.Volume in let K = g.K.Keep in record {
  so_far : V.tells → (channels : Channels) (held suspense : List (List ℕ)) → K.keeps l.fn.keeper channels (V.disk l.fn.volume) → channels.at (channel_of l.ask) ≡ live held suspense
      → (l.outs.items ++ told_at l.identity l.number l.ask held l.index ≡ l.fn.outs.items ++ told_at l.identity l.number l.ask held l.start)
      × IsNow (K.keeps l.keeper) channels (channel_of l.ask) (live held suspense) (V.disk l.volume);
  entries : (other : ℕ) → K.has_entry l.fn.keeper (channel_of l.ask) other → K.has_entry l.keeper (channel_of l.ask) other;
  sound : K.is_sound l.keeper;
  cost : (entries : List Entry) × (l.outs.items ≡ l.fn.outs.items ++ tell_entries l.identity l.number l.ask entries) × (V.clock l.volume ≤ V.clock l.fn.volume + 2 * length entries);
  disk : V.tells → V.disk l.volume ≡ V.disk l.fn.volume;
  follows : V.follows l.fn.volume l.volume;
  kept : V.faults l.volume ≡ V.faults l.fn.volume;
  later : V.faults l.fn.volume ≤ V.faults l.volume;
}
