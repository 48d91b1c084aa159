-- What a store makes of a channel.
use Rattle.std.proofs.Common.{◌≡◌, ◌⊎◌, inl, inr, ℕ, Bool, true, false, List, [], ◌++◌, length, Option, Some, None, Result, Ok, Err, IsOk, IsSome, IsErrOf, refl}
use Rattle.disk_volume.specs.Disk.{Disk, reads}
use Rattle.disk_volume.specs.Moments.{EachNow, EachSince, Grew, still, no_sync}
use Rattle.disk_volume.specs.Lemmas.Since.{each_then, now_alone}
use Rattle.log_format.specs.Frames.{size_of}
use Rattle.log_format.specs.declared.form.Form.{Form}
use Rattle.log_format.specs.declared.form.Form.TheVariants.{One, Two}
use Rattle.keeper_channel.specs.Chan.{channel_room}
use Rattle.keeper_channel.specs.Slot.{IsStored}
use Rattle.keeper_channel.specs.declared.slot.Slot.{Slot}
use Rattle.keeper_channel.specs.declared.refused.KeeperRefused.{KeeperRefused}
use Rattle.keeper_channel.specs.declared.refused.KeeperRefused.TheVariants.{Full, Store, Damaged, NoMemory}
use Rattle.keeper_table.specs.Files.{file_one, file_two}
use Rattle.keeper_state.specs.Crashes.{StoresAndLeaves}
use Rattle.keeper_state.specs.State.{State, live, again, Found, Opens, Doubts, Damages, Finds, Has, HasPlace, NotReached, FromList, Reaches, StoreRefused, Stores, StandsFor, HoldsWithin, IsNow, LeavesList, LeavesAdded, LeavesStored}
use Rattle.keeper_table.specs.Table.{channel_in, size_of as channels_in}
use Rattle.keeper_table.specs.declared.table.Table.{Table}
use Rattle.keeper_log.specs.Calls.{StoresIn}

room_of : (room : Bool) → (room ≡ false → ⊥) → room ≡ true
room_of true never = refl
room_of false never = absurd (never refl)

-- what a store of a list left, after the load before it
pub left_since : {own : List ℕ → Type 0} (opens_one opens_two : Opens) (channel : List ℕ) (finds : Found → Type 0) (state next : State) (old mid new : Disk)
    → Grew own mid new → LeavesList opens_one opens_two channel finds state old mid
    → EachSince mid new (λ image. (list : List (List ℕ)) × (doubtful : List (List ℕ)) × (Reaches finds state list doubtful ⊎ IsNow next list doubtful)
    × HoldsWithin opens_one opens_two channel list doubtful image)
    → LeavesStored opens_one opens_two channel finds state next old new
left_since opens_one opens_two channel finds state next old mid new grew first each = λ h s has.
    let P : (List ℕ → List ℕ) → Type 0 = λ image. HoldsWithin opens_one opens_two channel h s image
    ⊎ ((list : List (List ℕ)) × (doubtful : List (List ℕ)) × (Reaches finds state list doubtful ⊎ IsNow next list doubtful)
    × HoldsWithin opens_one opens_two channel list doubtful image) in
    each_then old mid new P grew (λ image left. inl (first h s has image left)) (λ image left. inr (each image left))

-- a store that came to a list made this of the channel
abbrev pub Reached : (finds : Found → Type 0) (loaded : ℕ) → State → (added : List (List ℕ)) → Result ℕ KeeperRefused → State → Type 0
Reached finds loaded state added (Ok index) next = Stores finds loaded state added (Ok index) next
Reached finds loaded state added (Err refused) next = FromList finds loaded state (λ held suspense. StoreRefused held suspense added refused next)

-- and each crash leaves that
pub and_leaves : (opens_one opens_two : Opens) (channel : List ℕ) (finds : Found → Type 0) (size : ℕ) (state next : State) (added : List (List ℕ)) (answer : Result ℕ KeeperRefused) (old new : Disk)
    → Reached finds size state added answer next → LeavesStored opens_one opens_two channel finds state next old new
    → StoresAndLeaves opens_one opens_two channel finds size state added answer next old new
and_leaves opens_one opens_two channel finds size state next added (Ok index) old new reached leaves = (reached, leaves)
and_leaves opens_one opens_two channel finds size state next added (Err refused) old new reached leaves = inr (reached, leaves)

-- the state and the crashes of a store into a slot
abbrev pub Left : {O G : Type 0} (rests_one rests_two : Form → List ℕ → Disk → Type 0) (opens_one opens_two : Opens) (doubt : Doubts)
    (holds_one : O → List (List ℕ) → Disk → Type 0) (holds_two : G → List (List ℕ) → Disk → Type 0) (channel : List ℕ) (finds : Found → Type 0) (size : ℕ) (state : State)
    (added : List (List ℕ)) (found : Option (Option (Slot O G))) (answer : Result ℕ KeeperRefused) (mid new : Disk) → Type 0
Left rests_one rests_two opens_one opens_two doubt holds_one holds_two channel finds size state added found answer mid new =
    (next : State) × Reached finds size state added answer next × StandsFor rests_one rests_two opens_one opens_two doubt holds_one holds_two channel found next new
    × EachSince mid new (λ image. (list : List (List ℕ)) × (doubtful : List (List ℕ)) × (Reaches finds state list doubtful ⊎ IsNow next list doubtful)
    × HoldsWithin opens_one opens_two channel list doubtful image)

-- nothing that was added was seen
since_spared : (opens_one opens_two : Opens) (channel : List ℕ) (finds : Found → Type 0) (state next : State) (held suspense : List (List ℕ)) (mid new : Disk) → Reaches finds state held suspense
    → EachSince mid new (HoldsWithin opens_one opens_two channel held suspense)
    → EachSince mid new (λ image. (list : List (List ℕ)) × (doubtful : List (List ℕ)) × (Reaches finds state list doubtful ⊎ IsNow next list doubtful)
    × HoldsWithin opens_one opens_two channel list doubtful image)
since_spared opens_one opens_two channel finds state next held suspense mid new reaches each image left = (held, suspense, inl reaches, each image left)

-- what was added is in the list
since_stored : (opens_one opens_two : Opens) (channel : List ℕ) (finds : Found → Type 0) (state : State) (held suspense added : List (List ℕ)) (mid new : Disk) → Reaches finds state held suspense
    → EachSince mid new (λ image. HoldsWithin opens_one opens_two channel held suspense image ⊎ HoldsWithin opens_one opens_two channel held added image)
    → EachSince mid new (λ image. (list : List (List ℕ)) × (doubtful : List (List ℕ)) × (Reaches finds state list doubtful ⊎ IsNow (live (held ++ added) []) list doubtful)
    × HoldsWithin opens_one opens_two channel list doubtful image)
since_stored opens_one opens_two channel finds state held suspense added mid new reaches each image left = elim (each image left) [
  | inl within ↦ (held, suspense, inl reaches, within)
  | inr within ↦ elim within [
    | inl before ↦ (held, suspense, inl reaches, inl before)
    | inr behind ↦ (held ++ added, [], inr (refl, refl), inl behind)
  ]
]

-- what was added is in suspense
since_doubtful : (opens_one opens_two : Opens) (channel : List ℕ) (finds : Found → Type 0) (state : State) (held suspense added : List (List ℕ)) (mid new : Disk) → Reaches finds state held suspense
    → EachSince mid new (λ image. HoldsWithin opens_one opens_two channel held suspense image ⊎ HoldsWithin opens_one opens_two channel held added image)
    → EachSince mid new (λ image. (list : List (List ℕ)) × (doubtful : List (List ℕ)) × (Reaches finds state list doubtful ⊎ IsNow (again held added) list doubtful)
    × HoldsWithin opens_one opens_two channel list doubtful image)
since_doubtful opens_one opens_two channel finds state held suspense added mid new reaches each image left = elim (each image left) [
  | inl within ↦ (held, suspense, inl reaches, within)
  | inr within ↦ (held, added, inr (refl, refl), within)
]

-- a refusal that is no `Store` showed nothing of what was to be added
spared_of : (P Q : Type 0) (refused : KeeperRefused) → (refused ≡ Store → ⊥) → P ⊎ ((refused ≡ Store) × Q) → P
spared_of P Q refused other (inl is) = is
spared_of P Q refused other (inr both) = absurd (other both.0)

pub stored_left : {O G : Type 0} (rests_one rests_two : Form → List ℕ → Disk → Type 0) (opens_one opens_two : Opens) (doubt : Doubts)
    (holds_one : O → List (List ℕ) → Disk → Type 0) (holds_two : G → List (List ℕ) → Disk → Type 0) (channel : List ℕ) (finds : Found → Type 0) (size : ℕ) (state : State)
    (held suspense added : List (List ℕ)) (slot : Option (Slot O G)) (found : Option (Option (Slot O G))) (answer : Result ℕ KeeperRefused) (mid new : Disk)
    → IsStored (opens_one One (file_one channel)) (opens_two Two (file_two channel)) (doubt Two (file_two channel)) holds_one holds_two held suspense added slot answer mid new
    → (IsOk answer → IsSome slot) → (IsErrOf answer Store → slot ≡ None) → found ≡ Some slot → HasPlace size state → Reaches finds state held suspense
    → Left rests_one rests_two opens_one opens_two doubt holds_one holds_two channel finds size state added found answer mid new
stored_left rests_one rests_two opens_one opens_two doubt holds_one holds_two channel finds size state held suspense added (Some slot) found (Ok index) mid new stored some none is place reaches =
    let room : channel_room held (length added) (size_of added) ≡ true = room_of _ (λ none_left. let e = stored.full.1 none_left in absurd (cc)) in (
      live (held ++ added) [],
      (place, held, suspense, reaches, (room, stored.left.1, refl)),
      (slot, is, stored.left.0),
      since_stored opens_one opens_two channel finds state held suspense added mid new reaches stored.each,
    )
stored_left rests_one rests_two opens_one opens_two doubt holds_one holds_two channel finds size state held suspense added None found (Ok index) mid new stored some none is place reaches =
    let e : false ≡ true = some refl in absurd (cc)
stored_left rests_one rests_two opens_one opens_two doubt holds_one holds_two channel finds size state held suspense added (Some slot) found (Err Full) mid new stored some none is place reaches =
    let other : Full ≡ Store → ⊥ = λ e. absurd (cc) in (
      live held suspense,
      (place, held, suspense, reaches, (stored.full.0 refl, refl)),
      (slot, is, (spared_of _ _ Full other stored.spared).0),
      since_spared opens_one opens_two channel finds state (live held suspense) held suspense mid new reaches (spared_of _ _ Full other stored.spared).1,
    )
stored_left rests_one rests_two opens_one opens_two doubt holds_one holds_two channel finds size state held suspense added None found (Err Full) mid new stored some none is place reaches =
    let e : false ≡ true = (stored.nothing refl).0 in absurd (cc)
stored_left {O} {G} rests_one rests_two opens_one opens_two doubt holds_one holds_two channel finds size state held suspense added (Some slot) found (Err Store) mid new stored some none is place reaches =
    let e : Some slot ≡ None = none refl in absurd (cc)
stored_left rests_one rests_two opens_one opens_two doubt holds_one holds_two channel finds size state held suspense added None found (Err Store) mid new stored some none is place reaches =
    let room : channel_room held (length added) (size_of added) ≡ true = room_of _ (λ none_left. let e = stored.full.1 none_left in absurd (cc)) in
    elim stored.spared [
      | inl spared ↦ (
        again held suspense,
        (place, held, suspense, reaches, (room, inl refl)),
        (is, spared.0),
        since_spared opens_one opens_two channel finds state (again held suspense) held suspense mid new reaches spared.1,
      )
      | inr doubtful ↦ (
        again held added,
        (place, held, suspense, reaches, (room, inr refl)),
        (is, doubtful.1),
        since_doubtful opens_one opens_two channel finds state held suspense added mid new reaches stored.each,
      )
    ]
stored_left rests_one rests_two opens_one opens_two doubt holds_one holds_two channel finds size state held suspense added slot found (Err (Damaged damage)) mid new stored some none is place reaches =
    absurd (stored.undamaged damage refl)
stored_left rests_one rests_two opens_one opens_two doubt holds_one holds_two channel finds size state held suspense added (Some slot) found (Err (NoMemory error)) mid new stored some none is place reaches =
    let other : NoMemory error ≡ Store → ⊥ = λ e. absurd (cc) in (
      live held suspense,
      (place, held, suspense, reaches, inl refl),
      (slot, is, (spared_of _ _ (NoMemory error) other stored.spared).0),
      since_spared opens_one opens_two channel finds state (live held suspense) held suspense mid new reaches (spared_of _ _ (NoMemory error) other stored.spared).1,
    )
stored_left rests_one rests_two opens_one opens_two doubt holds_one holds_two channel finds size state held suspense added None found (Err (NoMemory error)) mid new stored some none is place reaches =
    let other : NoMemory error ≡ Store → ⊥ = λ e. absurd (cc) in (
      again held suspense,
      (place, held, suspense, reaches, inr refl),
      (is, (spared_of _ _ (NoMemory error) other stored.spared).0),
      since_spared opens_one opens_two channel finds state (again held suspense) held suspense mid new reaches (spared_of _ _ (NoMemory error) other stored.spared).1,
    )

-- each crash since the load before it began
pub added_since : {own : List ℕ → Type 0} (opens_one opens_two : Opens) (channel : List ℕ) (finds : Found → Type 0) (state : State) (added : List (List ℕ)) (old mid new : Disk) (held suspense : List (List ℕ))
    → Grew own mid new → LeavesList opens_one opens_two channel finds state old mid → Reaches finds state held suspense
    → EachSince mid new (λ image. HoldsWithin opens_one opens_two channel held suspense image ⊎ HoldsWithin opens_one opens_two channel held added image)
    → LeavesAdded opens_one opens_two channel finds state added old new
added_since opens_one opens_two channel finds state added old mid new held suspense grew first reaches each = λ h s has.
    let P : (List ℕ → List ℕ) → Type 0 = λ image. HoldsWithin opens_one opens_two channel h s image
    ⊎ ((list : List (List ℕ)) × (doubtful : List (List ℕ)) × Reaches finds state list doubtful
    × (HoldsWithin opens_one opens_two channel list doubtful image ⊎ HoldsWithin opens_one opens_two channel list added image)) in
    each_then old mid new P grew (λ image left. inl (first h s has image left)) (λ image left. inr (held, suspense, reaches, each image left))

-- a store that was refused before any call of the volume left all as it was
pub nothing_stored : {O G : Type 0} (rests_one rests_two : Form → List ℕ → Disk → Type 0) (opens_one opens_two : Opens) (doubt : Doubts) (damage_one damage_two : Damages)
    (holds_one : O → List (List ℕ) → Disk → Type 0) (holds_two : G → List (List ℕ) → Disk → Type 0) (owns_one owns_two : (name file : List ℕ) → Type 0) (channel : List ℕ)
    (added : List (List ℕ)) (table : Table (Slot O G)) (refused : KeeperRefused) (disk : Disk)
    → ((state : State) → NotReached (Finds opens_one opens_two doubt damage_one damage_two channel (reads disk)) (channels_in table) state refused)
    → ((state : State) (held suspense : List (List ℕ)) → StandsFor rests_one rests_two opens_one opens_two doubt holds_one holds_two channel (channel_in table channel) state disk
    → Has (Finds opens_one opens_two doubt damage_one damage_two channel (reads disk)) state held suspense → EachNow disk (HoldsWithin opens_one opens_two channel held suspense))
    → StoresIn rests_one rests_two opens_one opens_two doubt damage_one damage_two holds_one holds_two owns_one owns_two channel added table table (Err refused) disk disk
nothing_stored rests_one rests_two opens_one opens_two doubt damage_one damage_two holds_one holds_two owns_one owns_two channel added table refused disk before now = record {
  stored = λ state stands. (state, inl (before state, refl, λ held suspense has image left. now state held suspense stands has image (now_alone disk image left)), stands);
  leaves = λ state stands held suspense has image left. inl (now state held suspense stands has image (now_alone disk image left));
  acts = record { mid = disk; syncs = no_sync; acts = still };
  files = still;
  nothing = λ which. no_sync;
  unseen = λ none. no_sync;
}
