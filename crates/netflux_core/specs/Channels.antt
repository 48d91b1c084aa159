-- All channels as a keeper has them, and what a request makes of one.
use Rattle.std.specs.Prelude.{◌≡◌, ℕ, ◌+◌, false, List, bytes_eq, slice_get, Some, Result, Ok, Err}
use Rattle.disk_volume.specs.Disk.{Disk}
use Rattle.keeper_channel.specs.declared.refused.KeeperRefused.{KeeperRefused}
use Rattle.keeper_table.specs.Entry.{entry_in}
use Rattle.keeper_state.specs.State.{State, unseen, live, again, ReadRefused}
use Rattle.keeper_table.specs.declared.entry.Entry.{Entry}

-- What a keeper has of each channel, by the channel's digits, and how many it has loaded so far. One that has to be loaded again counts.
pub record Channels : Type 0 where
  pub at : List ℕ → State
  pub loaded : ℕ

-- none was loaded yet
abbrev pub no_channels : Channels
no_channels = record { at = λ channel. unseen; loaded = 0 }

-- how many channels are loaded, after one of them became another
abbrev pub loaded_after : ℕ → (before now : State) → ℕ
loaded_after loaded unseen unseen = loaded
loaded_after loaded unseen (live held suspense) = loaded + 1
loaded_after loaded unseen (again held suspense) = loaded + 1
loaded_after loaded (live list doubtful) now = loaded
loaded_after loaded (again list doubtful) now = loaded

-- one channel becomes this, and the others stay
pub record Changes (before : Channels) (channel : List ℕ) (becomes : State) (now : Channels) : Type 0 where
  pub this : now.at channel ≡ becomes
  pub others : (other : List ℕ) → bytes_eq channel other ≡ false → now.at other ≡ before.at other
  pub loaded : now.loaded ≡ loaded_after before.loaded (before.at channel) becomes

-- for the keeper on this disk a channel became this
pub record IsNow (keeps : Channels → Disk → Type 0) (before : Channels) (channel : List ℕ) (becomes : State) (disk : Disk) : Type 0 where
  pub now : Channels
  pub changes : Changes before channel becomes now
  pub kept : keeps now disk

-- for the keeper on this disk a channel is loaded
pub record HasLive (keeps : Channels → Disk → Type 0) (channel : List ℕ) (disk : Disk) : Type 0 where
  pub channels : Channels
  pub held : List (List ℕ)
  pub suspense : List (List ℕ)
  pub kept : keeps channels disk
  pub is_live : channels.at channel ≡ live held suspense

-- What comes of reading one entry of a list: the entry, or that the volume failed, and what the channel is then.
abbrev pub Gets : (held suspense : List (List ℕ)) → (index : ℕ) → Result Entry KeeperRefused → State → Type 0
Gets held suspense index (Ok entry) next = (payload : List ℕ) × (slice_get held index ≡ Some payload) × (entry ≡ entry_in index payload) × (next ≡ live held suspense)
Gets held suspense index (Err refused) next = ReadRefused held suspense refused next
