-- How the logs of a channel stand on a disk.
use Rattle.std.specs.Prelude.{◌≡◌, ◌⊎◌, ℕ, ◌+◌, Bool, true, false, List, [], Option, Some, None}
use Rattle.disk_volume.specs.Disk.{Disk, reads}
use Rattle.log_format.specs.declared.damage.Damage.{Damage}
use Rattle.gated_log.specs.declared.refused.LoadRefused.{LoadRefused}
use Rattle.gated_log.specs.declared.refused.LoadRefused.TheVariants.{Store, Damaged, NoMemory}
use Rattle.keeper_channel.specs.Chan.{has_marker, unmarked, moved, MarkerAt, IsChan, doubt_if}
use Rattle.keeper_channel.specs.declared.logs.Logs.{Logs}
use Rattle.keeper_channel.specs.declared.logs.Logs.TheVariants.{Unmoved, Moved}

-- what a load of these files finds: a list, and what is in suspense
pub record IsFound (opens_one opens_two : (List ℕ → List ℕ) → List (List ℕ) → Type 0) (doubt : (List ℕ → List ℕ) → List (List ℕ))
    (files : List ℕ → List ℕ) (held suspense : List (List ℕ)) : Type 0 where
  pub two : List (List ℕ)
  pub opened : opens_two files two
  pub is : IsChan (opens_one files) two held
  pub doubtful : suspense ≡ doubt_if (has_marker two) (doubt files)

-- The damage of these files, by the damage of each: that of form Two, and where that has none and no marker, that of form One.
abbrev pub IsDamaged : (damage_one damage_two : (List ℕ → List ℕ) → Option Damage) → (opens_two : (List ℕ → List ℕ) → List (List ℕ) → Type 0)
    → (files : List ℕ → List ℕ) → Damage → Type 0
IsDamaged damage_one damage_two opens_two files damage = (damage_two files ≡ Some damage)
    ⊎ ((two : List (List ℕ)) × (damage_two files ≡ None) × opens_two files two × (has_marker two ≡ false) × (damage_one files ≡ Some damage))

-- a refusal to load these files names their damage, or speaks of the volume or of memory
abbrev pub NamesDamage : (Damage → Type 0) → LoadRefused → Type 0
NamesDamage is Store = Unit {0}
NamesDamage is (Damaged damage) = is damage
NamesDamage is (NoMemory error) = Unit {0}

-- a loaded channel that was not moved yet
pub record IsUnmoved {O G : Type 0} (holds_one : O → List (List ℕ) → Disk → Type 0) (holds_two : G → List (List ℕ) → Disk → Type 0)
    (one : O) (two : G) (held suspense : List (List ℕ)) (disk : Disk) : Type 0 where
  pub old : List (List ℕ)
  pub new : List (List ℕ)
  pub holds_old : holds_one one old disk
  pub holds_new : holds_two two new disk
  pub unmoved : has_marker new ≡ false
  pub held_is : held ≡ moved old
  pub suspense_is : suspense ≡ []

-- and one that was
pub record IsMoved {G : Type 0} (holds_two : G → List (List ℕ) → Disk → Type 0) (doubt : (List ℕ → List ℕ) → List (List ℕ))
    (log : G) (marker : ℕ) (held suspense : List (List ℕ)) (disk : Disk) : Type 0 where
  pub new : List (List ℕ)
  pub holds_new : holds_two log new disk
  pub marked : MarkerAt new marker
  pub held_is : held ≡ unmarked new
  pub suspense_is : suspense ≡ doubt (reads disk)

-- a loaded channel is one or the other
abbrev pub IsLive : {O G : Type 0} (holds_one : O → List (List ℕ) → Disk → Type 0) (holds_two : G → List (List ℕ) → Disk → Type 0) (doubt : (List ℕ → List ℕ) → List (List ℕ))
    → Logs O G → (held suspense : List (List ℕ)) → Disk → Type 0
IsLive holds_one holds_two doubt (Unmoved one two) held suspense disk = IsUnmoved holds_one holds_two one two held suspense disk
IsLive holds_one holds_two doubt (Moved log marker) held suspense disk = IsMoved holds_two doubt log marker held suspense disk

-- each log is such a one
abbrev pub IsLogsOf : {O G : Type 0} (is_one : O → Type 0) (is_two : G → Type 0) → Logs O G → Type 0
IsLogsOf is_one is_two (Unmoved one two) = is_one one × is_two two
IsLogsOf is_one is_two (Moved log marker) = is_two log

-- the logs have so many entries, by the count of each
abbrev pub HasCount : {O G : Type 0} (count_one : O → ℕ) (count_two : G → ℕ) → Logs O G → ℕ → Type 0
HasCount count_one count_two (Unmoved one two) count = count_one one ≡ count
HasCount count_one count_two (Moved log marker) count = count_two log ≡ count + 1

-- Whether the log of form Two, where it is the channel's, has room for so many entries more. One that is not holds nothing yet that
-- could be in the way.
abbrev pub log_room : {O G : Type 0} (room_two : G → (entries bytes : ℕ) → Bool) → Logs O G → (entries bytes : ℕ) → Bool
log_room room_two (Unmoved one two) entries bytes = true
log_room room_two (Moved log marker) entries bytes = room_two log entries bytes

-- a load of these files found what is held on this disk
abbrev pub IsFoundIn : {O G : Type 0} (opens_one opens_two : (List ℕ → List ℕ) → List (List ℕ) → Type 0) (doubt : (List ℕ → List ℕ) → List (List ℕ))
    (holds_one : O → List (List ℕ) → Disk → Type 0) (holds_two : G → List (List ℕ) → Disk → Type 0) (files : List ℕ → List ℕ) → Logs O G → Disk → Type 0
IsFoundIn opens_one opens_two doubt holds_one holds_two files logs disk =
    (held : List (List ℕ)) × (suspense : List (List ℕ)) × IsFound opens_one opens_two doubt files held suspense × IsLive holds_one holds_two doubt logs held suspense disk
