-- What requests do to the files of channels, and what a crash leaves of them.
use Rattle.std.specs.Prelude.{◌≡◌, ◌⊎◌, ℕ, false, List, bytes_eq, Result, IsErrOf}
use Rattle.disk_volume.specs.Disk.{Disk, reads}
use Rattle.disk_volume.specs.Moments.{EachNow, EachSince, Grew, OnlySyncs}
use Rattle.keeper_channel.specs.Chan.{IsWithin}
use Rattle.keeper_channel.specs.Disks.{SyncsThenActs}
use Rattle.keeper_channel.specs.declared.refused.KeeperRefused.{KeeperRefused}
use Rattle.keeper_channel.specs.declared.refused.KeeperRefused.TheVariants.{Full, Damaged}
use Rattle.keeper_state.specs.State.{State, unseen, live, Found, Has, Reaches, FromList, Stores}
use Rattle.log_format.specs.declared.damage.Damage.{Damage}
use Rattle.pad_text.specs.Digits.{IsDigits}
use Rattle.netflux_core.specs.Channels.{Channels}

-- what the files of channels are to a keeper, by a channel's digits
pub record ChannelLogs : Type 1 where
  -- what a load of the channel finds in files
  pub finds : (channel : List ℕ) → (files : List ℕ → List ℕ) → Found → Type 0
  -- which list files give of it
  pub lists : (channel : List ℕ) → (files : List ℕ → List ℕ) → List (List ℕ) → Type 0
  -- a file is one of its
  pub owns : (channel file : List ℕ) → Type 0
  -- a file is its older one, which is only synced
  pub old : (channel file : List ℕ) → Type 0

-- a file is one of the channel's, and not its older one
abbrev pub OwnsNewer : ChannelLogs → (channel file : List ℕ) → Type 0
OwnsNewer logs channel file = logs.owns channel file × (logs.old channel file → ⊥)

-- Each crash since a request began leaves of a channel's list what was held before, with what was in suspense or without.
abbrev pub LeavesHeld : ChannelLogs → (channel : List ℕ) → State → (old new : Disk) → Type 0
LeavesHeld logs channel before old new = (held suspense : List (List ℕ)) → Has (logs.finds channel (reads old)) before held suspense
    → EachSince old new (λ image. IsWithin (logs.lists channel image) held suspense)

-- Each crash since then leaves that; or the list that the request came to, or the one that is held now, with what was in suspense then
-- or without.
abbrev pub LeavesMore : ChannelLogs → (channel : List ℕ) → (before now : State) → (old new : Disk) → Type 0
LeavesMore logs channel before now old new = (held suspense : List (List ℕ)) → Has (logs.finds channel (reads old)) before held suspense
    → EachSince old new (λ image. IsWithin (logs.lists channel image) held suspense
    ⊎ ((list : List (List ℕ)) × (doubtful : List (List ℕ)) × (Reaches (logs.finds channel (reads old)) before list doubtful ⊎ Has (logs.finds channel (reads old)) now list doubtful)
    × IsWithin (logs.lists channel image) list doubtful))

-- Each crash since a message to a channel began, which is to store these payloads, leaves what was held before; or the message came to a list,
-- with a result that a loaded channel with that list gives, and each crash leaves more.
abbrev pub LeavesThis : ChannelLogs → (before : Channels) (channel : List ℕ) (added : List (List ℕ)) → Result ℕ KeeperRefused → (now : State) → (old new : Disk) → Type 0
LeavesThis logs before channel added result now old new = LeavesHeld logs channel (before.at channel) old new
    ⊎ (FromList (logs.finds channel (reads old)) before.loaded (before.at channel) (λ list doubtful. Stores (logs.finds channel (reads old)) before.loaded (live list doubtful) added result now)
    × LeavesMore logs channel (before.at channel) now old new)

-- Each crash now leaves of a channel's list what is held, with what is in suspense or without. An unseen channel has what these files give.
abbrev pub HoldsNow : ChannelLogs → (channel : List ℕ) → (files : List ℕ → List ℕ) → State → Disk → Type 0
HoldsNow logs channel files now disk = (held suspense : List (List ℕ)) → Has (logs.finds channel files) now held suspense
    → EachNow disk (λ image. IsWithin (logs.lists channel image) held suspense)

-- the same of every channel
abbrev pub HoldsAll : ChannelLogs → Channels → Disk → Type 0
HoldsAll logs channels disk = (channel : List ℕ) → IsDigits 32 channel → HoldsNow logs channel (reads disk) (channels.at channel) disk

-- What a question about a channel does, which becomes this: it only syncs the channel's files, and each crash leaves of every channel what
-- was held before.
pub record LeavesAsked (logs : ChannelLogs) (before : Channels) (channel : List ℕ) (now : State) (old new : Disk) : Type 0 where
  pub digits : IsDigits 32 channel
  pub syncs : OnlySyncs (logs.owns channel) old new
  pub each : (other : List ℕ) → IsDigits 32 other → LeavesHeld logs other (before.at other) old new
  pub after : HoldsNow logs channel (reads old) now new

-- What a message to a channel does that is to store these payloads, with this result, and the channel becomes this. It acts on the channel's
-- files alone: first it only syncs them, and then it acts on those that are not its older one. It only syncs them where it refuses `Full` or
-- `Damaged`, and if the channel was never loaded and still is not. Each crash leaves of every other channel what was held before.
pub record LeavesStored (logs : ChannelLogs) (before : Channels) (channel : List ℕ) (added : List (List ℕ)) (result : Result ℕ KeeperRefused) (now : State) (old new : Disk) : Type 0 where
  pub digits : IsDigits 32 channel
  pub acts : Grew (logs.owns channel) old new
  pub spares_old : SyncsThenActs (logs.old channel) (OwnsNewer logs channel) old new
  pub spared : IsErrOf result Full ⊎ ((damage : Damage) × IsErrOf result (Damaged damage)) → OnlySyncs (logs.owns channel) old new
  pub unloaded : now ≡ unseen → OnlySyncs (logs.owns channel) old new
  pub this : LeavesThis logs before channel added result now old new
  pub others : (other : List ℕ) → IsDigits 32 other → bytes_eq channel other ≡ false → LeavesHeld logs other (before.at other) old new
  pub after : HoldsNow logs channel (reads old) now new
