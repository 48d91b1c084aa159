-- What calls on a channel do.
use Rattle.std.specs.Prelude.{◌≡◌, ◌⊎◌, ◌+◌, ◌&&◌, ℕ, List, Bool, false, None, Result, IsErrOf, bytes_eq, length}
use Rattle.disk_volume.specs.Disk.{Disk, reads}
use Rattle.disk_volume.specs.Moments.{Grew, OnlySyncs}
use Rattle.log_format.specs.declared.damage.Damage.{Damage}
use Rattle.log_format.specs.declared.form.Form.{Form}
use Rattle.log_format.specs.Frames.{size_of as bytes_of}
use Rattle.keeper_entry.specs.Index.{IsIndex}
use Rattle.keeper_channel.specs.Chan.{channel_room}
use Rattle.keeper_channel.specs.Disks.{SyncsThenActs}
use Rattle.keeper_channel.specs.Logs.{log_room}
use Rattle.keeper_channel.specs.declared.slot.Slot.{Slot}
use Rattle.keeper_channel.specs.declared.refused.KeeperRefused.{KeeperRefused}
use Rattle.keeper_channel.specs.declared.refused.KeeperRefused.TheVariants.{Full, Damaged}
use Rattle.keeper_table.specs.declared.table.Table.{Table}
use Rattle.keeper_table.specs.Files.{file_one, file_two, OfChannel}
use Rattle.keeper_table.specs.Table.{channel_in, size_of, newly}
use Rattle.keeper_state.specs.Crashes.{StoresAndLeaves}
use Rattle.keeper_state.specs.State.{State, Found, Opens, Doubts, Damages, Finds, StandsFor, LeavesList, LeavesAdded}

-- Of each other channel the table has what it had, and it has as many channels as before, or this one more.
pub record ActsOn {S : Type 0} (channel : List ℕ) (before after : Table S) : Type 0 where
  pub others : (other : List ℕ) → bytes_eq channel other ≡ false → channel_in after other ≡ channel_in before other
  pub grew : size_of after ≡ size_of before + newly (channel_in before channel) (channel_in after channel)

-- A question to a channel makes such a state of its state. Each crash since it began leaves of the channel's list what was held before,
-- with what was in suspense or without, and the channel's files are only synced.
pub record Asks {O G : Type 0} (rests_one rests_two : Form → List ℕ → Disk → Type 0) (opens_one opens_two : Opens) (doubt : Doubts) (damage_one damage_two : Damages)
    (holds_one : O → List (List ℕ) → Disk → Type 0) (holds_two : G → List (List ℕ) → Disk → Type 0) (owns_one owns_two : (name file : List ℕ) → Type 0) (channel : List ℕ)
    (Becomes : (finds : Found → Type 0) (loaded : ℕ) (state next : State) → Type 0) (before after : Table (Slot O G)) (old new : Disk) : Type 0 where
  pub told : (state : State) → StandsFor rests_one rests_two opens_one opens_two doubt holds_one holds_two channel (channel_in before channel) state old
      → (next : State) × Becomes (Finds opens_one opens_two doubt damage_one damage_two channel (reads old)) (size_of before) state next
      × StandsFor rests_one rests_two opens_one opens_two doubt holds_one holds_two channel (channel_in after channel) next new
  pub leaves : (state : State) → StandsFor rests_one rests_two opens_one opens_two doubt holds_one holds_two channel (channel_in before channel) state old
      → LeavesList opens_one opens_two channel (Finds opens_one opens_two doubt damage_one damage_two channel (reads old)) state old new
  pub syncs : OnlySyncs (OfChannel owns_one owns_two channel) old new

-- A store of these payloads into a channel makes of its state what the store tells, and each crash since it began leaves what it tells
-- (`StoresAndLeaves`). Of the channel's files that of form One is only synced; so are both if it is refused `Full` or `Damaged`, and if the
-- channel was never loaded and still is not.
pub record StoresIn {O G : Type 0} (rests_one rests_two : Form → List ℕ → Disk → Type 0) (opens_one opens_two : Opens) (doubt : Doubts) (damage_one damage_two : Damages)
    (holds_one : O → List (List ℕ) → Disk → Type 0) (holds_two : G → List (List ℕ) → Disk → Type 0) (owns_one owns_two : (name file : List ℕ) → Type 0) (channel : List ℕ)
    (added : List (List ℕ)) (before after : Table (Slot O G)) (result : Result ℕ KeeperRefused) (old new : Disk) : Type 0 where
  pub stored : (state : State) → StandsFor rests_one rests_two opens_one opens_two doubt holds_one holds_two channel (channel_in before channel) state old
      → (next : State) × StoresAndLeaves opens_one opens_two channel (Finds opens_one opens_two doubt damage_one damage_two channel (reads old)) (size_of before) state added result next old new
      × StandsFor rests_one rests_two opens_one opens_two doubt holds_one holds_two channel (channel_in after channel) next new
  pub leaves : (state : State) → StandsFor rests_one rests_two opens_one opens_two doubt holds_one holds_two channel (channel_in before channel) state old
      → LeavesAdded opens_one opens_two channel (Finds opens_one opens_two doubt damage_one damage_two channel (reads old)) state added old new
  pub acts : SyncsThenActs (owns_one (file_one channel)) (owns_two (file_two channel)) old new
  pub files : Grew (OfChannel owns_one owns_two channel) old new
  pub nothing : IsErrOf result Full ⊎ ((damage : Damage) × IsErrOf result (Damaged damage)) → OnlySyncs (OfChannel owns_one owns_two channel) old new
  pub unseen : channel_in after channel ≡ None → OnlySyncs (OfChannel owns_one owns_two channel) old new

-- A loaded channel has no room for these payloads, by its index or by the log that it was moved to.
abbrev pub HasNoRoom : {O G : Type 0} (room_two : G → (entries bytes : ℕ) → Bool) → Slot O G → (added : List (List ℕ)) → Type 0
HasNoRoom room_two slot added = (payloads : List (List ℕ)) → IsIndex slot.index payloads
    → (channel_room payloads (length added) (bytes_of added) && log_room room_two slot.logs (length added) (bytes_of added)) ≡ false
