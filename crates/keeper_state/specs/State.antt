-- The list of a channel as a keeper has it, and what calls make of it.
use Rattle.std.specs.Prelude.{◌≡◌, ◌⊎◌, ℕ, ◌<◌, true, false, List, [], ◌++◌, length, Option, None, Some, Result, Ok, Err}
use Rattle.disk_volume.specs.Disk.{Disk}
use Rattle.disk_volume.specs.Moments.{EachSince}
use Rattle.log_format.specs.declared.damage.Damage.{Damage}
use Rattle.log_format.specs.declared.form.Form.{Form}
use Rattle.log_format.specs.declared.form.Form.TheVariants.{One, Two}
use Rattle.log_format.specs.Frames.{size_of}
use Rattle.keeper_channel.specs.Chan.{channel_room, IsList, IsWithin}
use Rattle.keeper_channel.specs.Logs.{IsFound}
use Rattle.keeper_channel.specs.Slot.{Keeps, HasDamage}
use Rattle.keeper_channel.specs.declared.slot.Slot.{Slot}
use Rattle.keeper_channel.specs.declared.refused.KeeperRefused.{KeeperRefused}
use Rattle.keeper_channel.specs.declared.refused.KeeperRefused.TheVariants.{Full, Store, Damaged, NoMemory}
use Rattle.keeper_table.specs.declared.table.TheConstants.{MOST_CHANNELS}
use Rattle.keeper_table.specs.Files.{file_one, file_two}

-- A channel was not loaded yet; or it is loaded, or has to be loaded again, with the list held and what is in suspense.
pub data State : Type 0 where
  unseen : State
  live : (held suspense : List (List ℕ)) → State
  again : (held suspense : List (List ℕ)) → State

-- what a load of a channel's files finds: a list and what is in suspense, or a damage
pub data Found : Type 0 where
  lists : (held suspense : List (List ℕ)) → Found
  damages : Damage → Found

-- what files of logs open as, what is doubtful of them, and their damage: by the form and the name of the log, and the files
abbrev pub Opens : Type 1
Opens = Form → (name : List ℕ) → (files : List ℕ → List ℕ) → List (List ℕ) → Type 0

abbrev pub Doubts : Type 0
Doubts = Form → (name : List ℕ) → (files : List ℕ → List ℕ) → List (List ℕ)

abbrev pub Damages : Type 0
Damages = Form → (name : List ℕ) → (files : List ℕ → List ℕ) → Option Damage

-- what a load of a channel's files finds, by what the logs of each form are
abbrev pub Finds : (opens_one opens_two : Opens) (doubt : Doubts) (damage_one damage_two : Damages) → (channel : List ℕ) → (files : List ℕ → List ℕ) → Found → Type 0
Finds opens_one opens_two doubt damage_one damage_two channel files (lists held suspense) =
    IsFound (opens_one One (file_one channel)) (opens_two Two (file_two channel)) (doubt Two (file_two channel)) files held suspense
    × ((damage : Damage) → HasDamage (opens_one One (file_one channel)) (opens_two Two (file_two channel)) (damage_one One (file_one channel)) (damage_two Two (file_two channel)) files damage → ⊥)
Finds opens_one opens_two doubt damage_one damage_two channel files (damages damage) =
    HasDamage (opens_one One (file_one channel)) (opens_two Two (file_two channel)) (damage_one One (file_one channel)) (damage_two Two (file_two channel)) files damage

-- A call comes to this list, and this is in suspense then. A channel that has to be loaded again has the list held, or that and
-- what was in suspense: of the two the one that its files open as.
abbrev pub Reaches : (finds : Found → Type 0) → State → (held suspense : List (List ℕ)) → Type 0
Reaches finds unseen held suspense = finds (lists held suspense)
Reaches finds (live list doubtful) held suspense = (held ≡ list) × (suspense ≡ doubtful)
Reaches finds (again list doubtful) held suspense = finds (lists held suspense) × ((held ≡ list) ⊎ (held ≡ list ++ doubtful))

-- before a call this is held, and this is in suspense
abbrev pub Has : (finds : Found → Type 0) → State → (held suspense : List (List ℕ)) → Type 0
Has finds unseen held suspense = finds (lists held suspense)
Has finds (live list doubtful) held suspense = (held ≡ list) × (suspense ≡ doubtful)
Has finds (again list doubtful) held suspense = (held ≡ list) × (suspense ≡ doubtful)

-- a call needs a load
abbrev pub NeedsLoad : State → Type 0
NeedsLoad unseen = Unit {0}
NeedsLoad (live list doubtful) = ⊥
NeedsLoad (again list doubtful) = Unit {0}

-- the keeper has a place for the channel: where it was not loaded yet, fewer than the most channels were
abbrev pub HasPlace : (loaded : ℕ) → State → Type 0
HasPlace loaded unseen = loaded < MOST_CHANNELS
HasPlace loaded (live list doubtful) = Unit {0}
HasPlace loaded (again list doubtful) = Unit {0}

-- A call is refused before it comes to the channel's list: `Full` exactly if there is no place for the channel, and otherwise
-- `Store` or `Damaged` by the load that it needs.
abbrev pub NotReached : (finds : Found → Type 0) (loaded : ℕ) → State → KeeperRefused → Type 0
NotReached finds loaded state Full = HasPlace loaded state → ⊥
NotReached finds loaded state Store = HasPlace loaded state × NeedsLoad state
NotReached finds loaded state (Damaged damage) = HasPlace loaded state × NeedsLoad state × finds (damages damage)
NotReached finds loaded state (NoMemory error) = Unit {0}

-- A call came to a list with this in suspense, and what it made of the two is so.
abbrev pub FromList : (finds : Found → Type 0) (loaded : ℕ) → State → ((held suspense : List (List ℕ)) → Type 0) → Type 0
FromList finds loaded state Is = HasPlace loaded state × (held : List (List ℕ)) × (suspense : List (List ℕ)) × Reaches finds state held suspense × Is held suspense

-- What a question makes of a channel that answers it without a read of its entries.
abbrev pub Answers : {T : Type 0} (finds : Found → Type 0) (loaded : ℕ) → State → (is_right : List (List ℕ) → T → Type 0) → Result T KeeperRefused → State → Type 0
Answers finds loaded state is_right (Ok told) next = FromList finds loaded state (λ held suspense. is_right held told × (next ≡ live held suspense))
Answers finds loaded state is_right (Err refused) next = NotReached finds loaded state refused × (next ≡ state)

-- A read of entries of a list was refused with this, and the channel is this then.
abbrev pub ReadRefused : (held suspense : List (List ℕ)) → KeeperRefused → State → Type 0
ReadRefused held suspense Full next = ⊥
ReadRefused held suspense Store next = next ≡ again held suspense
ReadRefused held suspense (Damaged damage) next = ⊥
ReadRefused held suspense (NoMemory error) next = next ≡ live held suspense

-- What a question makes of a channel that reads entries to answer it.
abbrev pub AnswersByReading : {T : Type 0} (finds : Found → Type 0) (loaded : ℕ) → State → (is_right : List (List ℕ) → T → Type 0) → Result T KeeperRefused → State → Type 0
AnswersByReading finds loaded state is_right (Ok told) next = FromList finds loaded state (λ held suspense. is_right held told × (next ≡ live held suspense))
AnswersByReading finds loaded state is_right (Err refused) next = (NotReached finds loaded state refused × (next ≡ state))
    ⊎ FromList finds loaded state (λ held suspense. ReadRefused held suspense refused next)

-- A store of these payloads behind a list was refused with this, and the channel is this then: `Full` exactly if there is no room;
-- where the volume failed, the payloads may be in suspense.
abbrev pub StoreRefused : (held suspense added : List (List ℕ)) → KeeperRefused → State → Type 0
StoreRefused held suspense added Full next = (channel_room held (length added) (size_of added) ≡ false) × (next ≡ live held suspense)
StoreRefused held suspense added Store next = (channel_room held (length added) (size_of added) ≡ true) × ((next ≡ again held suspense) ⊎ (next ≡ again held added))
StoreRefused held suspense added (Damaged damage) next = ⊥
StoreRefused held suspense added (NoMemory error) next = (next ≡ live held suspense) ⊎ (next ≡ again held suspense)

-- What a store of these payloads makes of a channel: at `Ok` the index of the first, and a list with the payloads and nothing in
-- suspense.
abbrev pub Stores : (finds : Found → Type 0) (loaded : ℕ) → State → (added : List (List ℕ)) → Result ℕ KeeperRefused → State → Type 0
Stores finds loaded state added (Ok index) next = FromList finds loaded state (λ held suspense.
    (channel_room held (length added) (size_of added) ≡ true) × (index ≡ length held) × (next ≡ live (held ++ added) []))
Stores finds loaded state added (Err refused) next = (NotReached finds loaded state refused × (next ≡ state))
    ⊎ FromList finds loaded state (λ held suspense. StoreRefused held suspense added refused next)

-- What the keeper's table has of a channel stands for this state of it on this disk. It has nothing of a channel that was not loaded
-- yet, and nothing is pending on that channel's files; a slot of a loaded one, and no slot of one that has to be loaded again, which
-- keep the list held and what is in suspense.
abbrev pub StandsFor : {O G : Type 0} (rests_one rests_two : Form → List ℕ → Disk → Type 0) (opens_one opens_two : Opens) (doubt : Doubts)
    (holds_one : O → List (List ℕ) → Disk → Type 0) (holds_two : G → List (List ℕ) → Disk → Type 0) → (channel : List ℕ) → (found : Option (Option (Slot O G))) → State → Disk → Type 0
StandsFor rests_one rests_two opens_one opens_two doubt holds_one holds_two channel found unseen disk =
    (found ≡ None) × rests_one One (file_one channel) disk × rests_two Two (file_two channel) disk
StandsFor {O} {G} rests_one rests_two opens_one opens_two doubt holds_one holds_two channel found (live held suspense) disk = (slot : Slot O G) × (found ≡ Some (Some slot))
    × Keeps (opens_one One (file_one channel)) (opens_two Two (file_two channel)) (doubt Two (file_two channel)) holds_one holds_two (Some slot) held suspense disk
StandsFor rests_one rests_two opens_one opens_two doubt holds_one holds_two channel found (again held suspense) disk = (found ≡ Some None)
    × Keeps (opens_one One (file_one channel)) (opens_two Two (file_two channel)) (doubt Two (file_two channel)) holds_one holds_two None held suspense disk

-- these files hold this list of a channel, or this and what is in suspense
abbrev pub HoldsWithin : (opens_one opens_two : Opens) (channel : List ℕ) (held suspense : List (List ℕ)) → (files : List ℕ → List ℕ) → Type 0
HoldsWithin opens_one opens_two channel held suspense files = IsWithin (IsList (opens_one One (file_one channel)) (opens_two Two (file_two channel)) files) held suspense

-- Each crash since a call began leaves of the channel's list what was held before, with what was in suspense or without.
abbrev pub LeavesList : (opens_one opens_two : Opens) (channel : List ℕ) (finds : Found → Type 0) → State → (old new : Disk) → Type 0
LeavesList opens_one opens_two channel finds state old new = (held suspense : List (List ℕ)) → Has finds state held suspense
    → EachSince old new (HoldsWithin opens_one opens_two channel held suspense)

-- after a call this is held, and this is in suspense
abbrev pub IsNow : State → (held suspense : List (List ℕ)) → Type 0
IsNow unseen held suspense = ⊥
IsNow (live list doubtful) held suspense = (held ≡ list) × (suspense ≡ doubtful)
IsNow (again list doubtful) held suspense = (held ≡ list) × (suspense ≡ doubtful)

-- Each crash since a store began leaves of the channel's list what was held before, or the list that the store came to, or what is held
-- after it: each with what is in suspense then, or without.
abbrev pub LeavesStored : (opens_one opens_two : Opens) (channel : List ℕ) (finds : Found → Type 0) → (state next : State) → (old new : Disk) → Type 0
LeavesStored opens_one opens_two channel finds state next old new = (held suspense : List (List ℕ)) → Has finds state held suspense → EachSince old new (λ image.
    HoldsWithin opens_one opens_two channel held suspense image
    ⊎ ((list : List (List ℕ)) × (doubtful : List (List ℕ)) × (Reaches finds state list doubtful ⊎ IsNow next list doubtful)
    × HoldsWithin opens_one opens_two channel list doubtful image))

-- The same by the payloads alone, whatever the store was answered: what was held before, or the list that it came to, with what was in
-- suspense then or with the payloads added, or without.
abbrev pub LeavesAdded : (opens_one opens_two : Opens) (channel : List ℕ) (finds : Found → Type 0) → State → (added : List (List ℕ)) → (old new : Disk) → Type 0
LeavesAdded opens_one opens_two channel finds state added old new = (held suspense : List (List ℕ)) → Has finds state held suspense → EachSince old new (λ image.
    HoldsWithin opens_one opens_two channel held suspense image
    ⊎ ((list : List (List ℕ)) × (doubtful : List (List ℕ)) × Reaches finds state list doubtful
    × (HoldsWithin opens_one opens_two channel list doubtful image ⊎ HoldsWithin opens_one opens_two channel list added image)))
