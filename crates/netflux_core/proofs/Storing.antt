-- A message to a channel: what the keeper did is what the machine does.
use Rattle.std.proofs.Common.{◌≡◌, ◌≤◌, ℕ, ◌+◌, ◌-◌, ◌^◌, min, List, [], ◌∷◌, Result, refl, sym, subst}
use Rattle.disk_volume.specs.Disk.{Disk, reads}
use Rattle.keeper_channel.specs.declared.refused.KeeperRefused.{KeeperRefused}
use Rattle.keeper_entry.specs.Entry.{payload_of}
use Rattle.keeper_state.specs.State.{State, Stores}
use Rattle.netflux_rooms.specs.Machine.{stores}
use Rattle.netflux_rooms.specs.Rooms.{Identities, id_of}
use Rattle.netflux_rooms.specs.declared.room_hub.RoomHub.{RoomHub}
use Rattle.serve_loop.specs.declared.out.Out.{Out}
use Rattle.netflux_core.specs.Channels.{Channels, IsNow}
use Rattle.netflux_core.specs.Crashes.{ChannelLogs, LeavesStored}
use Rattle.netflux_core.specs.Inside.Ends.{Ends}
use Rattle.netflux_core.specs.Machine.{ServeState, StoreGives, BreaksBy, StandsFor, stored_after}
use Rattle.netflux_core.specs.Words.{failures_after}

module _ (logs : ChannelLogs) (keeps_old keeps : Channels → Disk → Type 0) (identities : Identities) (hub : RoomHub) (first faults_old faults : ℕ) (state : ServeState)
    (moment number seq : ℕ) (sender channel content : List ℕ) (old new : Disk) (stands : StandsFor keeps_old identities hub old first faults_old state) (is_sender : sender ≡ id_of identities state.rooms number) where
  left : (result : Result ℕ KeeperRefused) (next : State) → LeavesStored logs state.channels channel (payload_of moment sender content ∷ []) result next old new
      → LeavesStored logs state.channels channel (payload_of moment (id_of identities state.rooms number) content ∷ []) result next state.disk new
  left result next leaves =
      subst (λ (d : Disk). LeavesStored logs state.channels channel (payload_of moment (id_of identities state.rooms number) content ∷ []) result next d new) (sym stands.disk_is)
      (subst (λ (id : List ℕ). LeavesStored logs state.channels channel (payload_of moment id content ∷ []) result next old new) is_sender leaves)

  pub stored_ends : (result : Result ℕ KeeperRefused) (next : State) (outs : List Out)
      → Stores (logs.finds channel (reads old)) state.channels.loaded (state.channels.at channel) (payload_of moment sender content ∷ []) result next
      → IsNow keeps state.channels channel next new
      → StoreGives identities state.rooms number seq channel content result outs
      → LeavesStored logs state.channels channel (payload_of moment sender content ∷ []) result next old new
      → min (first + failures_after state.failures result) (2 ^ 64 - 1) ≤ faults
      → (failures_after state.failures result ≡ 0 → faults ≡ first)
      → Ends logs keeps identities hub new first faults state moment (stores number seq channel content) outs
  stored_ends result next outs stored is gives leaves failures unfailing = record {
    next = record { rooms = state.rooms; channels = is.now; disk = new; failures = failures_after state.failures result; stored = stored_after state.stored channel (payload_of moment (id_of identities state.rooms number) content) result };
    becomes = (
      result,
      next,
      subst (λ (d : Disk). Stores (logs.finds channel (reads d)) state.channels.loaded (state.channels.at channel) (payload_of moment (id_of identities state.rooms number) content ∷ []) result next) (sym stands.disk_is)
          (subst (λ (id : List ℕ). Stores (logs.finds channel (reads old)) state.channels.loaded (state.channels.at channel) (payload_of moment id content ∷ []) result next) is_sender stored),
      gives,
      record {
        rooms = refl;
        changes = is.changes;
        failures_are = refl;
        stored_are = refl;
      },
      left result next leaves,
    );
    stands = record { rooms = stands.rooms; channels = is.kept; disk_is = refl; failures = failures; unfailing = unfailing };
  }

  -- and what is left if memory runs out then
  pub stored_breaks : (result : Result ℕ KeeperRefused) (next : State)
      → Stores (logs.finds channel (reads old)) state.channels.loaded (state.channels.at channel) (payload_of moment sender content ∷ []) result next
      → LeavesStored logs state.channels channel (payload_of moment sender content ∷ []) result next old new
      → BreaksBy logs identities state moment new (stores number seq channel content)
  stored_breaks result next stored leaves = (
    result,
    next,
    subst (λ (d : Disk). Stores (logs.finds channel (reads d)) state.channels.loaded (state.channels.at channel) (payload_of moment (id_of identities state.rooms number) content ∷ []) result next) (sym stands.disk_is)
        (subst (λ (id : List ℕ). Stores (logs.finds channel (reads old)) state.channels.loaded (state.channels.at channel) (payload_of moment id content ∷ []) result next) is_sender stored),
    left result next leaves,
  )
