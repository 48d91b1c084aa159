-- What a channel keeps on a disk, and what acts on other channels leave of it.
use Rattle.std.proofs.Common.{◌≡◌, ◌∙◌, inl, ℕ, List, Option, None, Some, IfSome}
use Rattle.disk_volume.specs.Disk.{Disk, reads}
use Rattle.disk_volume.specs.Moments.{moment, EachNow, EachSince}
use Rattle.disk_volume.specs.Lemmas.Since.{since_now}
use Rattle.keeper_channel.specs.Chan.{IsList, IsWithin}
use Rattle.keeper_channel.specs.Logs.{IsLive, IsLogsOf}
use Rattle.keeper_channel.specs.Slot.{IsSlotOf, Keeps}
use Rattle.keeper_channel.specs.declared.logs.Logs.{Logs}
use Rattle.keeper_channel.specs.declared.logs.Logs.TheVariants.{Unmoved, Moved}
use Rattle.keeper_channel.specs.declared.slot.Slot.{Slot}
use Rattle.keeper_channel.proofs.Slots.{live_now}

pub keeps_now : {O G : Type 0} (opens_one opens_two : (List ℕ → List ℕ) → List (List ℕ) → Type 0) (doubt : (List ℕ → List ℕ) → List (List ℕ))
    (holds_one : O → List (List ℕ) → Disk → Type 0) (holds_two : G → List (List ℕ) → Disk → Type 0) (is_one : O → Type 0) (is_two : G → Type 0) (count_one : O → ℕ) (count_two : G → ℕ)
    (slot : Option (Slot O G)) (held suspense : List (List ℕ)) (disk : Disk)
    → ((log : O) (payloads : List (List ℕ)) → is_one log → holds_one log payloads disk → EachNow disk (λ image. opens_one image payloads))
    → ((log : G) (payloads : List (List ℕ)) → is_two log → holds_two log payloads disk → EachNow disk (λ image. opens_two image payloads))
    → IfSome slot (IsSlotOf is_one is_two count_one count_two) → Keeps opens_one opens_two doubt holds_one holds_two slot held suspense disk
    → EachNow disk (λ image. IsWithin (IsList opens_one opens_two image) held suspense)
keeps_now opens_one opens_two doubt holds_one holds_two is_one is_two count_one count_two None held suspense disk by_one by_two made kept = kept
keeps_now opens_one opens_two doubt holds_one holds_two is_one is_two count_one count_two (Some slot) held suspense disk by_one by_two made kept = λ image left.
    inl (live_now opens_one opens_two doubt holds_one holds_two is_one is_two slot.logs held suspense disk by_one by_two made.made kept.live image left)

live_on : {O G : Type 0} (doubt : (List ℕ → List ℕ) → List (List ℕ)) (holds_one : O → List (List ℕ) → Disk → Type 0) (holds_two : G → List (List ℕ) → Disk → Type 0)
    (is_one : O → Type 0) (is_two : G → Type 0) (logs : Logs O G) (held suspense : List (List ℕ)) (old new : Disk)
    → ((log : O) (payloads : List (List ℕ)) → is_one log → holds_one log payloads old → holds_one log payloads new)
    → ((log : G) (payloads : List (List ℕ)) → is_two log → holds_two log payloads old → holds_two log payloads new)
    → doubt (reads old) ≡ doubt (reads new) → IsLogsOf is_one is_two logs → IsLive holds_one holds_two doubt logs held suspense old → IsLive holds_one holds_two doubt logs held suspense new
live_on doubt holds_one holds_two is_one is_two (Unmoved one two) held suspense old new by_one by_two same made is = record {
  old = is.old;
  new = is.new;
  holds_old = by_one one is.old made.0 is.holds_old;
  holds_new = by_two two is.new made.1 is.holds_new;
  unmoved = is.unmoved;
  held_is = is.held_is;
  suspense_is = is.suspense_is;
}
live_on doubt holds_one holds_two is_one is_two (Moved log marker) held suspense old new by_one by_two same made is = record {
  new = is.new;
  holds_new = by_two log is.new made is.holds_new;
  marked = is.marked;
  held_is = is.held_is;
  suspense_is = is.suspense_is ∙ same;
}

pub keeps_on : {O G : Type 0} (opens_one opens_two : (List ℕ → List ℕ) → List (List ℕ) → Type 0) (doubt : (List ℕ → List ℕ) → List (List ℕ))
    (holds_one : O → List (List ℕ) → Disk → Type 0) (holds_two : G → List (List ℕ) → Disk → Type 0) (is_one : O → Type 0) (is_two : G → Type 0) (count_one : O → ℕ) (count_two : G → ℕ)
    (slot : Option (Slot O G)) (held suspense : List (List ℕ)) (old new : Disk)
    → ((log : O) (payloads : List (List ℕ)) → is_one log → holds_one log payloads old → holds_one log payloads new)
    → ((log : G) (payloads : List (List ℕ)) → is_two log → holds_two log payloads old → holds_two log payloads new)
    → doubt (reads old) ≡ doubt (reads new) → IfSome slot (IsSlotOf is_one is_two count_one count_two)
    → EachSince old new (λ image. IsWithin (IsList opens_one opens_two image) held suspense)
    → Keeps opens_one opens_two doubt holds_one holds_two slot held suspense old → Keeps opens_one opens_two doubt holds_one holds_two slot held suspense new
keeps_on opens_one opens_two doubt holds_one holds_two is_one is_two count_one count_two None held suspense old new by_one by_two same made each kept = λ image left.
    each image (since_now (moment old) new image left)
keeps_on opens_one opens_two doubt holds_one holds_two is_one is_two count_one count_two (Some slot) held suspense old new by_one by_two same made each kept = record {
  live = live_on doubt holds_one holds_two is_one is_two slot.logs held suspense old new by_one by_two same made.made kept.live;
  indexed = kept.indexed;
  entries = kept.entries;
}
