-- How a channel that is loaded to be read alone stands on a disk.
use Rattle.std.specs.Prelude.{◌≡◌, ℕ, List, length}
use Rattle.disk_volume.specs.Disk.{Disk}
use Rattle.keeper_channel.specs.Entries.{AreEntries}
use Rattle.keeper_channel.specs.Logs.{IsFound, IsLive, IsLogsOf, HasCount}
use Rattle.keeper_channel.specs.declared.checked.CheckedChannel.{CheckedChannel}

-- Each log of the channel is such a one, and it counts their entries. This holds over every volume.
pub record IsCheckedOf {O G : Type 0} (is_one : O → Type 0) (is_two : G → Type 0) (count_one : O → ℕ) (count_two : G → ℕ) (channel : CheckedChannel O G) : Type 0 where
  pub made : IsLogsOf is_one is_two channel.logs
  pub counted : HasCount count_one count_two channel.logs channel.count

-- The channel has this list and this suspense on this disk: its logs do, it counts the list, and each payload holds an entry.
pub record IsChecked {O G : Type 0} (holds_one : O → List (List ℕ) → Disk → Type 0) (holds_two : G → List (List ℕ) → Disk → Type 0) (doubt : (List ℕ → List ℕ) → List (List ℕ))
    (channel : CheckedChannel O G) (held suspense : List (List ℕ)) (disk : Disk) : Type 0 where
  pub live : IsLive holds_one holds_two doubt channel.logs held suspense disk
  pub counted : channel.count ≡ length held
  pub entries : AreEntries held

-- a load of these files found what the channel has on this disk
abbrev pub IsCheckedFound : {O G : Type 0} (opens_one opens_two : (List ℕ → List ℕ) → List (List ℕ) → Type 0) (doubt : (List ℕ → List ℕ) → List (List ℕ))
    (holds_one : O → List (List ℕ) → Disk → Type 0) (holds_two : G → List (List ℕ) → Disk → Type 0) (files : List ℕ → List ℕ) → CheckedChannel O G → Disk → Type 0
IsCheckedFound opens_one opens_two doubt holds_one holds_two files channel disk =
    (held : List (List ℕ)) × (suspense : List (List ℕ)) × IsFound opens_one opens_two doubt files held suspense × IsChecked holds_one holds_two doubt channel held suspense disk
