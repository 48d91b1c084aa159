-- Laws of the entries of a channel's list.
use Rattle.std.proofs.Common.{◌≡◌, ◌∙◌, inl, inr, ℕ, suc, ◌+◌, ◌<◌, ◌≤◌, ◌&&◌, arith, Bool, true, false, refl, IsTrue, List, length, Some, sym, ap, subst}
use Rattle.std.specs.Prelude.{slice_get}
use Rattle.std.proofs.lemmas.Bool.Decides.{leb_tells}
use Rattle.log_format.specs.declared.form.Form.{Form}
use Rattle.log_format.specs.declared.form.Form.TheVariants.{One, Two}
use Rattle.log_format.specs.declared.form.TheConstants.{MOST_ENTRIES_ONE}
use Rattle.log_format.specs.Form.{most_entries_of}
use Rattle.disk_volume.specs.Disk.{Disk, reads}
use Rattle.disk_volume.specs.Moments.{EachNow}
use Rattle.gated_log.specs.Ledger.{has_room}
use Rattle.keeper_channel.specs.Chan.{MarkerAt, unmarked, IsList, channel_room}
use Rattle.keeper_channel.specs.Logs.{IsFound, IsLive, IsLogsOf, HasCount, log_room}
use Rattle.keeper_channel.specs.declared.logs.Logs.{Logs}
use Rattle.keeper_channel.specs.declared.logs.Logs.TheVariants.{Unmoved, Moved}
use Rattle.keeper_channel.proofs.Chans.{get_before, get_behind, marked_at, unmoved_list, moved_list, list_by, found_list, length-moved, length-unmarked}
use Rattle.keeper_channel.proofs.Rooms.{room_marked}

pub few_entries : (form : Form) → most_entries_of form ≤ 1048577
few_entries One = omega arith
few_entries Two = omega arith

-- what stands in a log at an entry's place is the entry of that index
pub entry_of : (two : List (List ℕ)) (marker index place : ℕ) (payload : List ℕ) → MarkerAt two marker → (index < marker → place ≡ index) → (marker ≤ index → place ≡ index + 1)
    → slice_get two place ≡ Some payload → slice_get (unmarked two) index ≡ Some payload
entry_of two marker index place payload at before behind got = elim (leb_tells marker index) [
  | inl is ↦ get_behind two marker index at is.1 ∙ ap (slice_get two) (let same : suc index ≡ index + 1 = omega arith in same ∙ sym (behind is.1)) ∙ got
  | inr is ↦ get_before two marker index at is.1 ∙ ap (slice_get two) (sym (before is.1)) ∙ got
]

with_true : (room : Bool) → (room && true) ≡ room
with_true true = refl
with_true false = refl

with_same : (room same : Bool) → same ≡ room → (room && same) ≡ room
with_same true same is = is
with_same false same is = refl

-- the log of a channel that is loaded has the room that its list has
pub live_room : {O G : Type 0} (holds_one : O → List (List ℕ) → Disk → Type 0) (holds_two : G → List (List ℕ) → Disk → Type 0) (doubt : (List ℕ → List ℕ) → List (List ℕ))
    (is_one : O → Type 0) (is_two : G → Type 0) (room_two : G → (entries bytes : ℕ) → Bool) (logs : Logs O G) (held suspense : List (List ℕ)) (disk : Disk) (entries bytes : ℕ)
    → ((log : G) (payloads : List (List ℕ)) → is_two log → holds_two log payloads disk → room_two log entries bytes ≡ has_room Two payloads entries bytes)
    → IsLogsOf is_one is_two logs → IsLive holds_one holds_two doubt logs held suspense disk
    → (channel_room held entries bytes && log_room room_two logs entries bytes) ≡ channel_room held entries bytes
live_room holds_one holds_two doubt is_one is_two room_two (Unmoved one two) held suspense disk entries bytes by made is = with_true (channel_room held entries bytes)
live_room holds_one holds_two doubt is_one is_two room_two (Moved log marker) held suspense disk entries bytes by made is =
    with_same (channel_room held entries bytes) (room_two log entries bytes)
    (by log is.new made is.holds_new ∙ room_marked is.new entries bytes (marked_at is.new marker is.marked) ∙ ap (λ (l : List (List ℕ)). channel_room l entries bytes) (sym is.held_is))

-- each image of a channel that is loaded is its list
pub live_now : {O G : Type 0} (opens_one opens_two : (List ℕ → List ℕ) → List (List ℕ) → Type 0) (doubt : (List ℕ → List ℕ) → List (List ℕ))
    (holds_one : O → List (List ℕ) → Disk → Type 0) (holds_two : G → List (List ℕ) → Disk → Type 0) (is_one : O → Type 0) (is_two : G → Type 0) (logs : Logs O G) (held suspense : List (List ℕ)) (disk : Disk)
    → ((log : O) (payloads : List (List ℕ)) → is_one log → holds_one log payloads disk → EachNow disk (λ image. opens_one image payloads))
    → ((log : G) (payloads : List (List ℕ)) → is_two log → holds_two log payloads disk → EachNow disk (λ image. opens_two image payloads))
    → IsLogsOf is_one is_two logs → IsLive holds_one holds_two doubt logs held suspense disk → EachNow disk (λ image. IsList opens_one opens_two image held)
live_now opens_one opens_two doubt holds_one holds_two is_one is_two (Unmoved one two) held suspense disk by_one by_two made is image left =
    subst (IsList opens_one opens_two image) (sym is.held_is)
    (unmoved_list opens_one opens_two image is.new is.old (by_two two is.new made.1 is.holds_new image left) is.unmoved (by_one one is.old made.0 is.holds_old image left))
live_now opens_one opens_two doubt holds_one holds_two is_one is_two (Moved log marker) held suspense disk by_one by_two made is image left =
    subst (IsList opens_one opens_two image) (sym is.held_is)
    (moved_list opens_one opens_two image is.new (by_two log is.new made is.holds_new image left) (marked_at is.new marker is.marked))

-- a log of this name and form, in each image
pub by_name : {L : Type 0} (opens_as : Form → List ℕ → (List ℕ → List ℕ) → List (List ℕ) → Type 0) (name_of : L → List ℕ) (form_of : L → Form) (live : L → Bool)
    (form : Form) (name : List ℕ) (disk : Disk) (log : L) (payloads : List (List ℕ)) → (name_of log ≡ name) × (form_of log ≡ form) × IsTrue (live log)
    → EachNow disk (λ image. opens_as (form_of log) (name_of log) image payloads) → EachNow disk (λ image. opens_as form name image payloads)
by_name opens_as name_of form_of live form name disk log payloads made now image left =
    subst (λ (n : List ℕ). opens_as form n image payloads) made.0 (subst (λ (f : Form). opens_as f (name_of log) image payloads) made.1 (now image left))

-- and of one that was not loaded yet, where nothing is pending on its files
pub unloaded_now : (opens_one opens_two : (List ℕ → List ℕ) → List (List ℕ) → Type 0) (doubt : (List ℕ → List ℕ) → List (List ℕ)) (held suspense : List (List ℕ)) (disk : Disk)
    → ((payloads : List (List ℕ)) → opens_one (reads disk) payloads → EachNow disk (λ image. opens_one image payloads))
    → ((payloads : List (List ℕ)) → opens_two (reads disk) payloads → EachNow disk (λ image. opens_two image payloads))
    → IsFound opens_one opens_two doubt (reads disk) held suspense → EachNow disk (λ image. IsList opens_one opens_two image held)
unloaded_now opens_one opens_two doubt held suspense disk by_one by_two found image left =
    list_by opens_one opens_two (reads disk) image held (λ old is. by_one old is image left) (λ new is. by_two new is image left)
    (found_list opens_one opens_two doubt (reads disk) held suspense found)

-- the logs of a channel that is loaded have as many entries as its list
pub counted : {O G : Type 0} (holds_one : O → List (List ℕ) → Disk → Type 0) (holds_two : G → List (List ℕ) → Disk → Type 0) (doubt : (List ℕ → List ℕ) → List (List ℕ))
    (count_one : O → ℕ) (count_two : G → ℕ) (logs : Logs O G) (count : ℕ) (held suspense : List (List ℕ)) (disk : Disk)
    → ((log : O) (payloads : List (List ℕ)) → holds_one log payloads disk → count_one log ≡ length payloads)
    → ((log : G) (payloads : List (List ℕ)) → holds_two log payloads disk → count_two log ≡ length payloads)
    → HasCount count_one count_two logs count → IsLive holds_one holds_two doubt logs held suspense disk → count ≡ length held
counted holds_one holds_two doubt count_one count_two (Unmoved one two) count held suspense disk by_one by_two has is =
    sym has ∙ by_one one is.old is.holds_old ∙ sym (length-moved is.old) ∙ ap (λ (l : List (List ℕ)). length l) (sym is.held_is)
counted holds_one holds_two doubt count_one count_two (Moved log marker) count held suspense disk by_one by_two has is =
    omega (arith, has, by_two log is.new is.holds_new, length-unmarked is.new (marked_at is.new marker is.marked), ap (λ (l : List (List ℕ)). length l) is.held_is)

-- and no more than a log may have
pub few_in : {O G : Type 0} (count_one : O → ℕ) (count_two : G → ℕ) (logs : Logs O G) (count most : ℕ) → ((log : O) → count_one log ≤ most) → ((log : G) → count_two log ≤ most)
    → HasCount count_one count_two logs count → count ≤ most
few_in count_one count_two (Unmoved one two) count most by_one by_two has = omega (arith, has, by_one one)
few_in count_one count_two (Moved log marker) count most by_one by_two has = omega (arith, has, by_two log)

-- nor more than a channel may have, in logs of these names and forms
pub few_made : {O G : Type 0} (name_one : O → List ℕ) (form_one : O → Form) (live_one : O → Bool) (count_one : O → ℕ)
    (name_two : G → List ℕ) (form_two : G → Form) (live_two : G → Bool) (count_two : G → ℕ) (one two : List ℕ) (logs : Logs O G) (count : ℕ)
    → ((log : O) → count_one log ≤ most_entries_of (form_one log)) → ((log : G) → count_two log ≤ most_entries_of (form_two log))
    → IsLogsOf (λ log. (name_one log ≡ one) × (form_one log ≡ One) × IsTrue (live_one log)) (λ log. (name_two log ≡ two) × (form_two log ≡ Two) × IsTrue (live_two log)) logs
    → HasCount count_one count_two logs count → count ≤ MOST_ENTRIES_ONE
few_made name_one form_one live_one count_one name_two form_two live_two count_two one two (Unmoved log other) count by_one by_two made has =
    omega (arith, has, by_one log, ap most_entries_of made.0.1)
few_made name_one form_one live_one count_one name_two form_two live_two count_two one two (Moved log marker) count by_one by_two made has =
    omega (arith, has, by_two log, ap most_entries_of made.1)
