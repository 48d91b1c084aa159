-- What the keeper's table has of a channel, and what a crash leaves of it.
use Rattle.std.proofs.Common.{◌≡◌, ℕ, List, Option, Some, None, IfSome, sym, subst}
use Rattle.disk_volume.specs.Disk.{Disk, reads}
use Rattle.disk_volume.specs.Moments.{EachNow, EachSince}
use Rattle.log_format.specs.declared.form.Form.{Form}
use Rattle.log_format.specs.declared.form.Form.TheVariants.{One, Two}
use Rattle.keeper_channel.specs.Logs.{IsFound}
use Rattle.keeper_channel.specs.Slot.{Keeps}
use Rattle.keeper_channel.specs.declared.slot.Slot.{Slot}
use Rattle.keeper_table.specs.Files.{file_one, file_two}
use Rattle.keeper_state.specs.State.{State, unseen, live, again, Opens, Doubts, Damages, Finds, Has, HoldsWithin, LeavesList, StandsFor}
use Rattle.keeper_table.specs.Table.{joined}

-- what is held before a call is what the state has
pub held_of : (P : (held suspense : List (List ℕ)) → Type 0) (list doubtful held suspense : List (List ℕ)) → (held ≡ list) × (suspense ≡ doubtful) → P list doubtful → P held suspense
held_of P list doubtful held suspense has is =
    subst (λ (h : List (List ℕ)). P h suspense) (sym has.0) (subst (λ (s : List (List ℕ)). P list s) (sym has.1) is)

-- a crash leaves of a channel what is held, with what is in suspense or without
pub stands_now : {O G : Type 0} (rests_one rests_two : Form → List ℕ → Disk → Type 0) (opens_one opens_two : Opens) (doubt : Doubts) (damage_one damage_two : Damages)
    (holds_one : O → List (List ℕ) → Disk → Type 0) (holds_two : G → List (List ℕ) → Disk → Type 0) (is : Slot O G → Type 0) (channel : List ℕ)
    (found : Option (Option (Slot O G))) (state : State) (disk : Disk) (held suspense : List (List ℕ))
    → ((slot : Option (Slot O G)) (h s : List (List ℕ)) → IfSome slot is
    → Keeps (opens_one One (file_one channel)) (opens_two Two (file_two channel)) (doubt Two (file_two channel)) holds_one holds_two slot h s disk
    → EachNow disk (HoldsWithin opens_one opens_two channel h s))
    → ((h s : List (List ℕ)) → rests_one One (file_one channel) disk → rests_two Two (file_two channel) disk
    → IsFound (opens_one One (file_one channel)) (opens_two Two (file_two channel)) (doubt Two (file_two channel)) (reads disk) h s
    → EachNow disk (HoldsWithin opens_one opens_two channel h s))
    → IfSome (joined found) is → StandsFor rests_one rests_two opens_one opens_two doubt holds_one holds_two channel found state disk
    → Has (Finds opens_one opens_two doubt damage_one damage_two channel (reads disk)) state held suspense
    → EachNow disk (HoldsWithin opens_one opens_two channel held suspense)
stands_now rests_one rests_two opens_one opens_two doubt damage_one damage_two holds_one holds_two is channel found unseen disk held suspense by_kept by_found made stands has =
    by_found held suspense stands.1 stands.2 has.0
stands_now {O} {G} rests_one rests_two opens_one opens_two doubt damage_one damage_two holds_one holds_two is channel found (live list doubtful) disk held suspense by_kept by_found made stands has =
    held_of (λ h s. EachNow disk (HoldsWithin opens_one opens_two channel h s)) list doubtful held suspense has
    (by_kept (Some stands.0) list doubtful (subst (λ (f : Option (Option (Slot O G))). IfSome (joined f) is) stands.1 made) stands.2)
stands_now rests_one rests_two opens_one opens_two doubt damage_one damage_two holds_one holds_two is channel found (again list doubtful) disk held suspense by_kept by_found made stands has =
    held_of (λ h s. EachNow disk (HoldsWithin opens_one opens_two channel h s)) list doubtful held suspense has (by_kept None list doubtful tt stands.1)

-- what leaves a channel's list and its files' rest leaves its state
pub stands_on : {O G : Type 0} (rests_one rests_two : Form → List ℕ → Disk → Type 0) (opens_one opens_two : Opens) (doubt : Doubts) (damage_one damage_two : Damages)
    (holds_one : O → List (List ℕ) → Disk → Type 0) (holds_two : G → List (List ℕ) → Disk → Type 0) (is : Slot O G → Type 0) (channel : List ℕ)
    (found : Option (Option (Slot O G))) (state : State) (old new : Disk)
    → ((slot : Option (Slot O G)) (h s : List (List ℕ)) → IfSome slot is
    → Keeps (opens_one One (file_one channel)) (opens_two Two (file_two channel)) (doubt Two (file_two channel)) holds_one holds_two slot h s old
    → Keeps (opens_one One (file_one channel)) (opens_two Two (file_two channel)) (doubt Two (file_two channel)) holds_one holds_two slot h s new
    × EachSince old new (HoldsWithin opens_one opens_two channel h s))
    → (rests_one One (file_one channel) old → rests_two Two (file_two channel) old → rests_one One (file_one channel) new × rests_two Two (file_two channel) new)
    → ((h s : List (List ℕ)) → rests_one One (file_one channel) old → rests_two Two (file_two channel) old
    → IsFound (opens_one One (file_one channel)) (opens_two Two (file_two channel)) (doubt Two (file_two channel)) (reads old) h s
    → EachNow old (HoldsWithin opens_one opens_two channel h s))
    → IfSome (joined found) is → StandsFor rests_one rests_two opens_one opens_two doubt holds_one holds_two channel found state old
    → StandsFor rests_one rests_two opens_one opens_two doubt holds_one holds_two channel found state new
    × LeavesList opens_one opens_two channel (Finds opens_one opens_two doubt damage_one damage_two channel (reads old)) state old new
stands_on rests_one rests_two opens_one opens_two doubt damage_one damage_two holds_one holds_two is channel found unseen old new by_kept by_rests by_found made stands =
    let rests = by_rests stands.1 stands.2 in
    ((stands.0, rests.0, rests.1), λ held suspense has. (by_kept None held suspense tt (by_found held suspense stands.1 stands.2 has.0)).1)
stands_on {O} {G} rests_one rests_two opens_one opens_two doubt damage_one damage_two holds_one holds_two is channel found (live list doubtful) old new by_kept by_rests by_found made stands =
    let kept = by_kept (Some stands.0) list doubtful (subst (λ (f : Option (Option (Slot O G))). IfSome (joined f) is) stands.1 made) stands.2 in
    ((stands.0, stands.1, kept.0), λ held suspense has. held_of (λ h s. EachSince old new (HoldsWithin opens_one opens_two channel h s)) list doubtful held suspense has kept.1)
stands_on rests_one rests_two opens_one opens_two doubt damage_one damage_two holds_one holds_two is channel found (again list doubtful) old new by_kept by_rests by_found made stands =
    let kept = by_kept None list doubtful tt stands.1 in
    ((stands.0, kept.0), λ held suspense has. held_of (λ h s. EachSince old new (HoldsWithin opens_one opens_two channel h s)) list doubtful held suspense has kept.1)
