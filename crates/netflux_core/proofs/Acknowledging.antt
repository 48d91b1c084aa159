-- An entry that was acknowledged is the last of what is held then.
use Rattle.std.proofs.Common.{◌≡◌, ◌∙◌, ◌⊎◌, inl, inr, ℕ, List, [], ◌∷◌, ◌++◌, Result, Ok, Err}
use Rattle.disk_volume.specs.Disk.{reads}
use Rattle.keeper_channel.specs.declared.refused.KeeperRefused.{KeeperRefused}
use Rattle.keeper_entry.specs.Entry.{payload_of}
use Rattle.keeper_state.specs.State.{State, live, Stores}
use Rattle.netflux_rooms.specs.Machine.{stores, posted}
use Rattle.netflux_rooms.specs.Rooms.{Identities, id_of}
use Rattle.serve_loop.specs.declared.out.Out.{Out}
use Rattle.netflux_core.specs.Machine.{ServeState, StoreGives, InChannel, Becomes, stored_after}
use Rattle.netflux_core.specs.Crashes.{ChannelLogs}
use Rattle.netflux_core.specs.Words.{Refuses, failures_after}

module _ (logs : ChannelLogs) (identities : Identities) (state next : ServeState) (moment number seq : ℕ) (channel content : List ℕ) (outs : List Out) where
  abbrev pub IsLast : Type 0
  IsLast = (outs ≡ posted identities state.rooms number seq channel content)
      × (held : List (List ℕ)) × (next.channels.at channel ≡ live (held ++ payload_of moment (id_of identities state.rooms number) content ∷ []) [])

  by_result : (result : Result ℕ KeeperRefused) (now : State)
      → Stores (logs.finds channel (reads state.disk)) state.channels.loaded (state.channels.at channel) (payload_of moment (id_of identities state.rooms number) content ∷ []) result now
      → StoreGives identities state.rooms number seq channel content result outs
      → InChannel state channel now (failures_after state.failures result) (stored_after state.stored channel (payload_of moment (id_of identities state.rooms number) content) result) next
      → ((why : KeeperRefused) × Refuses number seq channel why outs) ⊎ IsLast
  by_result (Ok index) now stored gives in_channel = inr (gives, stored.1, in_channel.changes.this ∙ stored.4.2)
  by_result (Err why) now stored gives in_channel = inl (why, gives)

  pub acknowledged_last : Becomes logs identities state moment outs next (stores number seq channel content)
      → ((why : KeeperRefused) × Refuses number seq channel why outs) ⊎ IsLast
  acknowledged_last becomes = by_result becomes.0 becomes.1 becomes.2 becomes.3 becomes.4
