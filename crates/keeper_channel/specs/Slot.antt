-- How a channel stands on a disk, with its index.
use Rattle.std.specs.Prelude.{◌≡◌, ◌⊎◌, ◌↔◌, ℕ, List, ◌++◌, [], length, false, Option, None, Some, IsSome, Result, Err, IfOk, IfErr, IsErrOf, ◌≤◌}
use Rattle.disk_volume.specs.Disk.{Disk, reads}
use Rattle.disk_volume.specs.Moments.{EachNow, EachSince, JustSyncs}
use Rattle.log_format.specs.Frames.{size_of}
use Rattle.log_format.specs.declared.form.TheConstants.{MOST_ENTRIES_ONE}
use Rattle.log_format.specs.declared.damage.Damage.{Damage}
use Rattle.log_format.specs.declared.damage.Damage.TheVariants.{Entry}
use Rattle.keeper_entry.specs.Index.{IsIndex}
use Rattle.keeper_channel.specs.Chan.{channel_room, IsList, IsWithin}
use Rattle.keeper_channel.specs.Entries.{AreEntries, IsFirstOther}
use Rattle.keeper_channel.specs.Logs.{IsFound, IsDamaged, IsLive, IsLogsOf, HasCount}
use Rattle.keeper_channel.specs.declared.slot.Slot.{Slot}
use Rattle.keeper_channel.specs.declared.refused.KeeperRefused.{KeeperRefused}
use Rattle.keeper_channel.specs.declared.refused.KeeperRefused.TheVariants.{Full, Store, Damaged, NoMemory}

-- Each log of the slot is such a one. Its index is that of some list, counts the entries of its logs, and has no more of them than a
-- channel may have. This holds over every volume.
pub record IsSlotOf {O G : Type 0} (is_one : O → Type 0) (is_two : G → Type 0) (count_one : O → ℕ) (count_two : G → ℕ) (slot : Slot O G) : Type 0 where
  pub made : IsLogsOf is_one is_two slot.logs
  pub counted : HasCount count_one count_two slot.logs slot.index.count
  pub indexed : (payloads : List (List ℕ)) × IsIndex slot.index payloads
  pub few : slot.index.count ≤ MOST_ENTRIES_ONE

-- The slot has this list and this suspense on this disk: its logs do, its index is that of the list, and each payload holds an entry.
pub record IsSlot {O G : Type 0} (holds_one : O → List (List ℕ) → Disk → Type 0) (holds_two : G → List (List ℕ) → Disk → Type 0) (doubt : (List ℕ → List ℕ) → List (List ℕ))
    (slot : Slot O G) (held suspense : List (List ℕ)) (disk : Disk) : Type 0 where
  pub live : IsLive holds_one holds_two doubt slot.logs held suspense disk
  pub indexed : IsIndex slot.index held
  pub entries : AreEntries held

-- The damage of a channel: that of its files, or, where they have none, the first payload of its list that holds no entry.
abbrev pub HasDamage : (opens_one opens_two : (List ℕ → List ℕ) → List (List ℕ) → Type 0) (damage_one damage_two : (List ℕ → List ℕ) → Option Damage)
    → (files : List ℕ → List ℕ) → Damage → Type 0
HasDamage opens_one opens_two damage_one damage_two files damage = IsDamaged damage_one damage_two opens_two files damage
    ⊎ (((found : Damage) → IsDamaged damage_one damage_two opens_two files found → ⊥)
    × (list : List (List ℕ)) × (index : ℕ) × IsList opens_one opens_two files list × (damage ≡ Entry index) × IsFirstOther list index)

-- a load of these files found what the slot has on this disk
abbrev pub IsSlotFound : {O G : Type 0} (opens_one opens_two : (List ℕ → List ℕ) → List (List ℕ) → Type 0) (doubt : (List ℕ → List ℕ) → List (List ℕ))
    (holds_one : O → List (List ℕ) → Disk → Type 0) (holds_two : G → List (List ℕ) → Disk → Type 0) (files : List ℕ → List ℕ) → Slot O G → Disk → Type 0
IsSlotFound opens_one opens_two doubt holds_one holds_two files slot disk =
    (held : List (List ℕ)) × (suspense : List (List ℕ)) × IsFound opens_one opens_two doubt files held suspense × IsSlot holds_one holds_two doubt slot held suspense disk

-- A channel that is loaded has the list held, with this in suspense. One that is not, or not yet, is what its files say: each crash
-- leaves the list held, with what is in suspense or without.
abbrev pub Keeps : {O G : Type 0} (opens_one opens_two : (List ℕ → List ℕ) → List (List ℕ) → Type 0) (doubt : (List ℕ → List ℕ) → List (List ℕ))
    (holds_one : O → List (List ℕ) → Disk → Type 0) (holds_two : G → List (List ℕ) → Disk → Type 0) → Option (Slot O G) → (held suspense : List (List ℕ)) → Disk → Type 0
Keeps opens_one opens_two doubt holds_one holds_two None held suspense disk = EachNow disk (λ image. IsWithin (IsList opens_one opens_two image) held suspense)
Keeps opens_one opens_two doubt holds_one holds_two (Some slot) held suspense disk = IsSlot holds_one holds_two doubt slot held suspense disk

-- A channel was loaded again: it has the list held, or that and what was in suspense, of the two the one that its files open as.
-- In suspense is then what is doubtful of these files.
pub record IsReloaded {O G : Type 0} (opens_one opens_two : (List ℕ → List ℕ) → List (List ℕ) → Type 0) (doubt : (List ℕ → List ℕ) → List (List ℕ))
    (holds_one : O → List (List ℕ) → Disk → Type 0) (holds_two : G → List (List ℕ) → Disk → Type 0)
    (held suspense : List (List ℕ)) (slot : Slot O G) (old new : Disk) : Type 0 where
  pub loaded : List (List ℕ)
  pub doubtful : List (List ℕ)
  pub found : IsFound opens_one opens_two doubt (reads old) loaded doubtful
  pub is_loaded : (loaded ≡ held) ⊎ (loaded ≡ held ++ suspense)
  pub slot_is : IsSlot holds_one holds_two doubt slot loaded doubtful new

-- What a store into a loaded channel did. Since it began each crash leaves the list, with what was in suspense or with the entries
-- added or without. At `Ok` the list has the entries, none of them in suspense. A refusal is of two kinds: no crash since the store
-- began leaves the entries added, and the list is as it was, with what was in suspense; or, only where the volume failed, the entries
-- added are in suspense. `Full` comes exactly if there is no room; nothing was done then.
pub record IsStored {O G : Type 0} (opens_one opens_two : (List ℕ → List ℕ) → List (List ℕ) → Type 0) (doubt : (List ℕ → List ℕ) → List (List ℕ))
    (holds_one : O → List (List ℕ) → Disk → Type 0) (holds_two : G → List (List ℕ) → Disk → Type 0)
    (held suspense added : List (List ℕ)) (slot : Option (Slot O G)) (answer : Result ℕ KeeperRefused) (old new : Disk) : Type 0 where
  pub each : EachSince old new (λ image. IsWithin (IsList opens_one opens_two image) held suspense ⊎ IsWithin (IsList opens_one opens_two image) held added)
  pub left : IfOk answer (λ index. Keeps opens_one opens_two doubt holds_one holds_two slot (held ++ added) [] new × (index ≡ length held))
  pub full : IsErrOf answer Full ↔ (channel_room held (length added) (size_of added) ≡ false)
  pub nothing : IsErrOf answer Full → IsSome slot × (new ≡ old)
  pub undamaged : (damage : Damage) → IsErrOf answer (Damaged damage) → ⊥
  pub spared : IfErr answer (λ refused.
      (Keeps opens_one opens_two doubt holds_one holds_two slot held suspense new × EachSince old new (λ image. IsWithin (IsList opens_one opens_two image) held suspense))
      ⊎ ((refused ≡ Store) × Keeps opens_one opens_two doubt holds_one holds_two slot held added new))

-- a refusal names such a damage, or speaks of the volume or of memory
abbrev pub NamesIt : (Damage → Type 0) → KeeperRefused → Type 0
NamesIt is Full = ⊥
NamesIt is Store = Unit {0}
NamesIt is (Damaged damage) = is damage
NamesIt is (NoMemory error) = Unit {0}

-- What a store did that was refused while it loaded the channel: it only synced, and `Damaged` names the damage of the files.
pub record IsUnloaded {O G : Type 0} (opens_one opens_two : (List ℕ → List ℕ) → List (List ℕ) → Type 0) (damage_one damage_two : (List ℕ → List ℕ) → Option Damage)
    (held suspense : List (List ℕ)) (slot : Option (Slot O G)) (answer : Result ℕ KeeperRefused) (old new : Disk) : Type 0 where
  pub each : EachSince old new (λ image. IsWithin (IsList opens_one opens_two image) held suspense)
  pub gone : slot ≡ None
  pub refused : KeeperRefused
  pub answered : answer ≡ Err refused
  pub names : NamesIt (HasDamage opens_one opens_two damage_one damage_two (reads old)) refused
  pub syncs : JustSyncs old new

-- What a store did that loaded the channel first. It came to the list `loaded`, of `held` with what was in suspense or without the one
-- that the files open as, with what is doubtful of them in suspense, and the files were not damaged. The load only synced; on `mid`,
-- after it, the store into the loaded channel began.
pub record IsStoredAgain {O G : Type 0} (opens_one opens_two : (List ℕ → List ℕ) → List (List ℕ) → Type 0) (doubt : (List ℕ → List ℕ) → List (List ℕ))
    (damage_one damage_two : (List ℕ → List ℕ) → Option Damage)
    (holds_one : O → List (List ℕ) → Disk → Type 0) (holds_two : G → List (List ℕ) → Disk → Type 0)
    (held suspense added : List (List ℕ)) (slot : Option (Slot O G)) (answer : Result ℕ KeeperRefused) (old new : Disk) : Type 0 where
  pub loaded : List (List ℕ)
  pub doubtful : List (List ℕ)
  pub found : IsFound opens_one opens_two doubt (reads old) loaded doubtful
  pub is_loaded : (loaded ≡ held) ⊎ (loaded ≡ held ++ suspense)
  pub undamaged : (damage : Damage) → HasDamage opens_one opens_two damage_one damage_two (reads old) damage → ⊥
  pub mid : Disk
  pub syncs : JustSyncs old mid
  pub stored : IsStored opens_one opens_two doubt holds_one holds_two loaded doubtful added slot answer mid new
  pub each : EachSince old new (λ image. IsWithin (IsList opens_one opens_two image) held suspense
      ⊎ (IsWithin (IsList opens_one opens_two image) loaded doubtful ⊎ IsWithin (IsList opens_one opens_two image) loaded added))

-- What a store into a channel did, whether it was loaded or had to be.
abbrev pub IsKept : {O G : Type 0} (opens_one opens_two : (List ℕ → List ℕ) → List (List ℕ) → Type 0) (doubt : (List ℕ → List ℕ) → List (List ℕ))
    (damage_one damage_two : (List ℕ → List ℕ) → Option Damage) (holds_one : O → List (List ℕ) → Disk → Type 0) (holds_two : G → List (List ℕ) → Disk → Type 0)
    → (before : Option (Slot O G)) → (held suspense added : List (List ℕ)) → (slot : Option (Slot O G)) → (answer : Result ℕ KeeperRefused) → (old new : Disk) → Type 0
IsKept opens_one opens_two doubt damage_one damage_two holds_one holds_two (Some before) held suspense added slot answer old new =
    IsStored opens_one opens_two doubt holds_one holds_two held suspense added slot answer old new
IsKept opens_one opens_two doubt damage_one damage_two holds_one holds_two None held suspense added slot answer old new =
    IsUnloaded opens_one opens_two damage_one damage_two held suspense slot answer old new
    ⊎ IsStoredAgain opens_one opens_two doubt damage_one damage_two holds_one holds_two held suspense added slot answer old new
