-- What became of the entries that steps stored.
use Rattle.std.specs.Prelude.{◌≡◌, ◌⊎◌, ℕ, false, List, [], ◌∷◌, ◌++◌, slice_get, Some, bytes_eq, if◌then◌else◌}
use Rattle.disk_volume.specs.Disk.{Disk, reads}
use Rattle.disk_volume.specs.Moments.{Grew, OnlySyncs}
use Rattle.keeper_state.specs.State.{State, unseen, live, again, lists}
use Rattle.pad_text.specs.Digits.{IsDigits}
use Rattle.netflux_core.specs.Channels.{Channels}
use Rattle.netflux_core.specs.Crashes.{ChannelLogs}
use Rattle.netflux_core.specs.Machine.{StoredEntry, ServeState}

-- the list held in this state has this payload at this index
abbrev pub HoldsAt : State → (index : ℕ) → (payload : List ℕ) → Type 0
HoldsAt unseen index payload = ⊥
HoldsAt (live held suspense) index payload = slice_get held index ≡ Some payload
HoldsAt (again held suspense) index payload = slice_get held index ≡ Some payload

-- each of these entries is held in its channel, which has 32 digits, at its index
abbrev pub AreHeld : Channels → List StoredEntry → Type 0
AreHeld channels [] = Unit {0}
AreHeld channels (entry ∷ entries) = IsDigits 32 entry.channel × HoldsAt (channels.at entry.channel) entry.index entry.payload × AreHeld channels entries

-- the payloads of those that were stored in a channel, in order
abbrev pub stored_in : (channel : List ℕ) → List StoredEntry → List (List ℕ)
stored_in channel [] = []
stored_in channel (entry ∷ entries) = if bytes_eq channel entry.channel then entry.payload ∷ stored_in channel entries else stored_in channel entries

-- The later disk came from the earlier one by acts on the files of other channels, and by syncs of those of this one.
pub data Spares (logs : ChannelLogs) (channel : List ℕ) (old : Disk) : Disk → Type 0 where
  spared : Spares logs channel old old
  by_another : {mid new : Disk} (other : List ℕ) → IsDigits 32 other → bytes_eq other channel ≡ false → Grew (logs.owns other) mid new → Spares logs channel old mid → Spares logs channel old new
  by_syncs : {mid new : Disk} → OnlySyncs (logs.owns channel) mid new → Spares logs channel old mid → Spares logs channel old new

-- A channel that was not loaded at first still is not, and nothing was stored in it; or its list is the one that its files gave when it
-- was loaded, before which only other channels' files were acted on, and then what was stored in it, in order.
abbrev pub HoldsAllStored : ChannelLogs → (first : Disk) → (channel : List ℕ) → ServeState → Type 0
HoldsAllStored logs first channel state =
    ((state.channels.at channel ≡ unseen) × (stored_in channel state.stored ≡ []) × Spares logs channel first state.disk)
    ⊎ ((disk : Disk) × (list : List (List ℕ)) × (doubtful : List (List ℕ)) × (suspense : List (List ℕ)) × Spares logs channel first disk
    × logs.finds channel (reads disk) (lists list doubtful) × (state.channels.at channel ≡ live (list ++ stored_in channel state.stored) suspense))
