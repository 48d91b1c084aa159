-- What the keeper's table has of a channel, and what a crash leaves of it.
use Rattle.std.proofs.Common.{◌≡◌, ◌∙◌, ℕ, List, Option, Some, None, IfSome, refl, sym, ap, subst}
use Rattle.disk_volume.specs.Disk.{Disk, reads}
use Rattle.disk_volume.specs.Moments.{moment, EachNow, EachSince}
use Rattle.disk_volume.specs.Lemmas.Since.{since_now}
use Rattle.log_format.specs.declared.damage.Damage.{Damage}
use Rattle.log_format.specs.declared.form.Form.{Form}
use Rattle.log_format.specs.declared.form.Form.TheVariants.{One, Two}
use Rattle.keeper_channel.specs.Slot.{HasDamage, IsReloaded, IsSlotFound, Keeps}
use Rattle.keeper_channel.specs.declared.slot.Slot.{Slot}
use Rattle.keeper_table.specs.Files.{file_one, file_two}
use Rattle.keeper_state.specs.State.{State, unseen, live, again, Found, Opens, Doubts, Damages, Finds, Reaches, Has, FromList, HoldsWithin, LeavesList, StandsFor}
use Rattle.keeper_table.specs.Table.{joined}

-- what holds of a channel's files by their names
pub by_names : (P : List ℕ → List ℕ → Type 0) (one two one_name two_name : List ℕ) → one ≡ one_name → two ≡ two_name → P one two → P one_name two_name
by_names P one two one_name two_name same_one same_two is = subst (λ (n : List ℕ). P one_name n) same_two (subst (λ (n : List ℕ). P n two) same_one is)

-- a slot that is there is not none
pub not_both : {S : Type 0} {A : Type 0} (found : Option (Option S)) (slot : S) → joined found ≡ None → found ≡ Some (Some slot) → A
not_both {S} found slot none some = let e : None ≡ Some slot = sym none ∙ ap joined some in absurd (cc)

-- a property of each slot that is there, where none is
pub no_slot : {S : Type 0} (found : Option (Option S)) (is : S → Type 0) → joined found ≡ None → IfSome (joined found) is
no_slot {S} found is none = subst (λ (f : Option S). IfSome f is) (sym none) tt

-- a load that only syncs leaves the state of a channel that is not loaded
pub stands_synced : {O G : Type 0} (rests_one rests_two : Form → List ℕ → Disk → Type 0) (opens_one opens_two : Opens) (doubt : Doubts)
    (holds_one : O → List (List ℕ) → Disk → Type 0) (holds_two : G → List (List ℕ) → Disk → Type 0) (channel : List ℕ)
    (found : Option (Option (Slot O G))) (state : State) (old new : Disk)
    → (rests_one One (file_one channel) old → rests_one One (file_one channel) new) → (rests_two Two (file_two channel) old → rests_two Two (file_two channel) new)
    → ((h s : List (List ℕ)) → EachNow old (HoldsWithin opens_one opens_two channel h s) → EachSince old new (HoldsWithin opens_one opens_two channel h s))
    → joined found ≡ None → StandsFor rests_one rests_two opens_one opens_two doubt holds_one holds_two channel found state old
    → StandsFor rests_one rests_two opens_one opens_two doubt holds_one holds_two channel found state new
stands_synced rests_one rests_two opens_one opens_two doubt holds_one holds_two channel found unseen old new by_one by_two by none stands =
    (stands.0, by_one stands.1, by_two stands.2)
stands_synced rests_one rests_two opens_one opens_two doubt holds_one holds_two channel found (live list doubtful) old new by_one by_two by none stands =
    not_both found stands.0 none stands.1
stands_synced rests_one rests_two opens_one opens_two doubt holds_one holds_two channel found (again list doubtful) old new by_one by_two by none stands =
    (stands.0, λ image now. by list doubtful stands.1 image (since_now (moment old) new image now))

-- and each crash since it began leaves what was held before
pub load_left : {O G : Type 0} (rests_one rests_two : Form → List ℕ → Disk → Type 0) (opens_one opens_two : Opens) (doubt : Doubts) (damage_one damage_two : Damages)
    (holds_one : O → List (List ℕ) → Disk → Type 0) (holds_two : G → List (List ℕ) → Disk → Type 0) (channel : List ℕ) (old new : Disk)
    → (rests_one One (file_one channel) old → rests_one One (file_one channel) new) → (rests_two Two (file_two channel) old → rests_two Two (file_two channel) new)
    → ((h s : List (List ℕ)) → EachNow old (HoldsWithin opens_one opens_two channel h s) → EachSince old new (HoldsWithin opens_one opens_two channel h s))
    → ((found : Option (Option (Slot O G))) (state : State) (h s : List (List ℕ)) → joined found ≡ None → StandsFor rests_one rests_two opens_one opens_two doubt holds_one holds_two channel found state old
    → Has (Finds opens_one opens_two doubt damage_one damage_two channel (reads old)) state h s → EachNow old (HoldsWithin opens_one opens_two channel h s))
    → ((found : Option (Option (Slot O G))) (state : State) → joined found ≡ None → StandsFor rests_one rests_two opens_one opens_two doubt holds_one holds_two channel found state old
    → StandsFor rests_one rests_two opens_one opens_two doubt holds_one holds_two channel found state new)
    × ((found : Option (Option (Slot O G))) (state : State) → joined found ≡ None → StandsFor rests_one rests_two opens_one opens_two doubt holds_one holds_two channel found state old
    → LeavesList opens_one opens_two channel (Finds opens_one opens_two doubt damage_one damage_two channel (reads old)) state old new)
load_left rests_one rests_two opens_one opens_two doubt damage_one damage_two holds_one holds_two channel old new by_one by_two since now = (
  λ found state none stands. stands_synced rests_one rests_two opens_one opens_two doubt holds_one holds_two channel found state old new by_one by_two since none stands,
  λ found state none stands h s has. since h s (now found state h s none stands has),
)

-- a load came to a list
pub reached_by : {O G : Type 0} (rests_one rests_two : Form → List ℕ → Disk → Type 0) (opens_one opens_two : Opens) (doubt : Doubts) (damage_one damage_two : Damages)
    (holds_one : O → List (List ℕ) → Disk → Type 0) (holds_two : G → List (List ℕ) → Disk → Type 0) (channel : List ℕ)
    (found : Option (Option (Slot O G))) (state : State) (old new : Disk) (slot : Slot O G)
    → IsSlotFound (opens_one One (file_one channel)) (opens_two Two (file_two channel)) (doubt Two (file_two channel)) holds_one holds_two (reads old) slot new
    → ((damage : Damage) → HasDamage (opens_one One (file_one channel)) (opens_two Two (file_two channel)) (damage_one One (file_one channel)) (damage_two Two (file_two channel)) (reads old) damage → ⊥)
    → ((h s : List (List ℕ)) → EachNow old (HoldsWithin opens_one opens_two channel h s)
    → IsReloaded (opens_one One (file_one channel)) (opens_two Two (file_two channel)) (doubt Two (file_two channel)) holds_one holds_two h s slot old new)
    → joined found ≡ None → StandsFor rests_one rests_two opens_one opens_two doubt holds_one holds_two channel found state old
    → (held : List (List ℕ)) × (suspense : List (List ℕ)) × Reaches (Finds opens_one opens_two doubt damage_one damage_two channel (reads old)) state held suspense
    × Keeps (opens_one One (file_one channel)) (opens_two Two (file_two channel)) (doubt Two (file_two channel)) holds_one holds_two (Some slot) held suspense new
reached_by rests_one rests_two opens_one opens_two doubt damage_one damage_two holds_one holds_two channel found unseen old new slot is undamaged by none stands =
    (is.0, is.1, (is.2, undamaged), is.3)
reached_by rests_one rests_two opens_one opens_two doubt damage_one damage_two holds_one holds_two channel found (live list doubtful) old new slot is undamaged by none stands =
    not_both found stands.0 none stands.1
reached_by rests_one rests_two opens_one opens_two doubt damage_one damage_two holds_one holds_two channel found (again list doubtful) old new slot is undamaged by none stands =
    let was = by list doubtful stands.1 in
    (was.loaded, was.doubtful, ((was.found, undamaged), was.is_loaded), was.slot_is)

-- what the table has of a channel, by its state
abbrev pub Fits : {S : Type 0} → (found : Option (Option S)) → State → Type 0
Fits found unseen = found ≡ None
Fits {S} found (live held suspense) = (slot : S) × (found ≡ Some (Some slot))
Fits found (again held suspense) = found ≡ Some None

pub fits : {O G : Type 0} (rests_one rests_two : Form → List ℕ → Disk → Type 0) (opens_one opens_two : Opens) (doubt : Doubts)
    (holds_one : O → List (List ℕ) → Disk → Type 0) (holds_two : G → List (List ℕ) → Disk → Type 0) (channel : List ℕ)
    (found : Option (Option (Slot O G))) (state : State) (disk : Disk) → StandsFor rests_one rests_two opens_one opens_two doubt holds_one holds_two channel found state disk → Fits found state
fits rests_one rests_two opens_one opens_two doubt holds_one holds_two channel found unseen disk stands = stands.0
fits rests_one rests_two opens_one opens_two doubt holds_one holds_two channel found (live held suspense) disk stands = (stands.0, stands.1)
fits rests_one rests_two opens_one opens_two doubt holds_one holds_two channel found (again held suspense) disk stands = stands.0

-- a slot that is loaded is the one whose state it is
pub loaded_is : {O G : Type 0} (rests_one rests_two : Form → List ℕ → Disk → Type 0) (opens_one opens_two : Opens) (doubt : Doubts)
    (holds_one : O → List (List ℕ) → Disk → Type 0) (holds_two : G → List (List ℕ) → Disk → Type 0) (channel : List ℕ) (finds : Found → Type 0) (size : ℕ)
    (found : Option (Option (Slot O G))) (state : State) (disk : Disk) (slot : Slot O G) → Some slot ≡ joined found
    → StandsFor rests_one rests_two opens_one opens_two doubt holds_one holds_two channel found state disk
    → FromList finds size state (λ held suspense. Keeps (opens_one One (file_one channel)) (opens_two Two (file_two channel)) (doubt Two (file_two channel)) holds_one holds_two (Some slot) held suspense disk)
loaded_is {O} {G} rests_one rests_two opens_one opens_two doubt holds_one holds_two channel finds size found unseen disk slot is stands =
    let e : Some slot ≡ None = is ∙ ap joined stands.0 in absurd (cc)
loaded_is {O} {G} rests_one rests_two opens_one opens_two doubt holds_one holds_two channel finds size found (live list doubtful) disk slot is stands =
    let both : Some stands.0 ≡ Some slot = sym (ap joined stands.1) ∙ sym is in
    let same : stands.0 ≡ slot = cc in
    (tt, list, doubtful, (refl, refl), subst (λ (s : Slot O G). Keeps (opens_one One (file_one channel)) (opens_two Two (file_two channel)) (doubt Two (file_two channel)) holds_one holds_two (Some s) list doubtful disk) same stands.2)
loaded_is {O} {G} rests_one rests_two opens_one opens_two doubt holds_one holds_two channel finds size found (again list doubtful) disk slot is stands =
    let e : Some slot ≡ None = is ∙ ap joined stands.0 in absurd (cc)
