-- What acts on other files leave of a channel.
use Rattle.std.proofs.Common.{◌≡◌, ◌⊎◌, inl, ℕ, true, false, List, take, sym, subst}
use Rattle.disk_volume.specs.Disk.{Disk, IsImage, reads, file_at}
use Rattle.disk_volume.specs.Moments.{moment, EachSince, EachNow, Grew, OnlySyncs, no_sync, one_sync}
use Rattle.disk_volume.specs.Lemmas.Others.{others_leave}
use Rattle.disk_volume.specs.Lemmas.Since.{elsewhere, each_then, since_now, now_alone}
use Rattle.keeper_channel.specs.Chan.{has_marker, unmarked, moved, IsList, IsWithin}
use Rattle.gated_log.specs.Ledger.{LeavesOut}
use Rattle.keeper_channel.specs.Inside.Adding.{IsAdding, IsMoving}
use Rattle.gated_log.specs.Ledger.{Within}
use Rattle.keeper_channel.proofs.Chans.{unmoved_list, left_unmarked, adding_unmoved, adding_moved, within_moved, within_by, moved_unmarked}

-- what files open as stays in each image since acts on other files began
pub opens_since : {theirs : List ℕ → Type 0} (opens : (List ℕ → List ℕ) → Type 0) (mine : List ℕ → Type 0) (old new : Disk)
    → IsImage old (reads old) → Grew theirs old new → ((file : List ℕ) → theirs file → mine file → ⊥)
    → ((one other : List ℕ → List ℕ) → ((file : List ℕ) → mine file → one file ≡ other file) → opens one → opens other)
    → EachNow old opens → EachSince old new opens
opens_since opens mine old new read grew apart by now image left =
    let before = others_leave new read grew image left in
    by before.earlier image (λ file is. before.others file (λ other. apart file other is)) (now before.earlier before.is)

-- and so on the disk after them
pub stays : {theirs : List ℕ → Type 0} (mine : List ℕ → Type 0) (old new : Disk) → Grew theirs old new → ((file : List ℕ) → theirs file → mine file → ⊥)
    → (file : List ℕ) → mine file → file_at new file ≡ file_at old file
stays mine old new grew apart file is = elsewhere new file grew (λ other. apart file other is)

-- a restart leaves a channel without a marker as it is
pub restarted : {theirs : List ℕ → Type 0} (opens_one opens_two : (List ℕ → List ℕ) → List (List ℕ) → Type 0) (mine : List ℕ → Type 0) (before after : Disk) (old new : List (List ℕ))
    → IsImage before (reads before) → Grew theirs before after → ((file : List ℕ) → theirs file → mine file → ⊥)
    → ((one other : List ℕ → List ℕ) → ((file : List ℕ) → mine file → one file ≡ other file) → opens_one one old → opens_one other old)
    → EachNow before (λ image. opens_one image old) → has_marker new ≡ false
    → EachSince before after (λ image. (left : List (List ℕ)) × LeavesOut left new × opens_two image left)
    → EachSince before after (λ image. IsList opens_one opens_two image (moved old))
restarted opens_one opens_two mine before after old new read grew apart by now none each image left =
    let out = each image left in
    unmoved_list opens_one opens_two image out.0 old out.2 (left_unmarked out.0 new out.1 none)
    (opens_since (λ files. opens_one files old) mine before after read grew apart by now image left)

-- nothing was done
pub adding_still : (opens : (List ℕ → List ℕ) → List (List ℕ) → Type 0) (before after : Disk) (done doubt added : List (List ℕ)) → after ≡ before
    → EachNow before (λ image. opens image done) → EachSince before after (λ image. IsAdding (opens image) done doubt added)
adding_still opens before after done doubt added same now =
    let P : Disk → Type 0 = λ disk. EachSince before disk (λ image. IsAdding (opens image) done doubt added) in
    subst P (sym same) (λ image left. inl (inl (now image (now_alone before image left))))

-- a group more may have been moved
pub moved_each : {O G : Type 0} {theirs : List ℕ → Type 0} (opens_one opens_two : (List ℕ → List ℕ) → List (List ℕ) → Type 0) (doubt : (List ℕ → List ℕ) → List (List ℕ))
    (holds_one : O → List (List ℕ) → Disk → Type 0) (holds_two : G → List (List ℕ) → Disk → Type 0) (mine : List ℕ → Type 0)
    (one : O) (log : G) (old : List (List ℕ)) (index : ℕ) (start mid new : Disk) (group : List (List ℕ))
    → (so_far : IsMoving opens_one opens_two doubt holds_one holds_two theirs one log old index start mid)
    → IsImage mid (reads mid) → Grew theirs mid new → ((file : List ℕ) → theirs file → mine file → ⊥)
    → ((one other : List ℕ → List ℕ) → ((file : List ℕ) → mine file → one file ≡ other file) → opens_one one old → opens_one other old)
    → EachNow mid (λ image. opens_one image old)
    → has_marker group ≡ false → EachSince mid new (λ image. IsAdding (opens_two image) (moved (take index old)) (doubt (reads mid)) group)
    → EachSince start new (λ image. IsList opens_one opens_two image (moved old))
moved_each opens_one opens_two doubt holds_one holds_two mine one log old index start mid new group so_far read grew apart by now none each =
    each_then start mid new (λ image. IsList opens_one opens_two image (moved old)) grew so_far.each
    (λ image left. adding_unmoved opens_one opens_two image (moved (take index old)) (doubt (reads mid)) old group (moved_unmarked (take index old)) so_far.sure none
    (opens_since (λ files. opens_one files old) mine mid new read grew apart by now image left) (each image left))

-- two loads, one after the other
pub loads_twice : {one : List ℕ → Type 0} (old mid new : Disk) → Grew one mid new → EachSince old mid (IsImage old) → EachSince mid new (IsImage mid) → EachSince old new (IsImage old)
loads_twice old mid new grew first second =
    each_then old mid new (IsImage old) grew first (λ image left. first image (since_now (moment old) mid image (second image left)))

pub syncs_within : {own theirs : List ℕ → Type 0} {old : Disk} (new : Disk) → ((name : List ℕ) → own name → theirs name) → OnlySyncs own old new → OnlySyncs theirs old new
syncs_within new within no_sync = no_sync
syncs_within new within (one_sync {name = name} {new = before} mine syncs) = one_sync (within name mine) (syncs_within before within syncs)

pub syncs_then : {own : List ℕ → Type 0} {old mid : Disk} (new : Disk) → OnlySyncs own old mid → OnlySyncs own mid new → OnlySyncs own old new
syncs_then new first no_sync = first
syncs_then new first (one_sync {name = name} {new = before} mine syncs) = one_sync mine (syncs_then before first syncs)

-- a moved channel to which something is added, in each image since
pub stored_each : (opens_one opens_two : (List ℕ → List ℕ) → List (List ℕ) → Type 0) (two doubt held suspense added : List (List ℕ)) (old new : Disk)
    → has_marker two ≡ true → held ≡ unmarked two → suspense ≡ doubt → EachSince old new (λ image. IsAdding (opens_two image) two doubt added)
    → EachSince old new (λ image. IsWithin (IsList opens_one opens_two image) held suspense ⊎ IsWithin (IsList opens_one opens_two image) held added)
stored_each opens_one opens_two two doubt held suspense added old new marked held_is suspense_is each image left =
    let P : List (List ℕ) → List (List ℕ) → Type 0 = λ h s. IsWithin (IsList opens_one opens_two image) h s ⊎ IsWithin (IsList opens_one opens_two image) h added in
    subst (λ (h : List (List ℕ)). P h suspense) (sym held_is) (subst (λ (s : List (List ℕ)). P (unmarked two) s) (sym suspense_is) (adding_moved opens_one opens_two image two doubt added marked (each image left)))

-- and where only what was doubtful may have been added
pub stored_doubt : (opens_one opens_two : (List ℕ → List ℕ) → List (List ℕ) → Type 0) (two doubt held suspense : List (List ℕ)) (old new : Disk)
    → has_marker two ≡ true → held ≡ unmarked two → suspense ≡ doubt
    → EachSince old new (λ image. Within (opens_two image) two doubt) → EachSince old new (λ image. IsWithin (IsList opens_one opens_two image) held suspense)
stored_doubt opens_one opens_two two doubt held suspense old new marked held_is suspense_is each image left =
    let P : List (List ℕ) → List (List ℕ) → Type 0 = λ h s. IsWithin (IsList opens_one opens_two image) h s in
    subst (λ (h : List (List ℕ)). P h suspense) (sym held_is) (subst (λ (s : List (List ℕ)). P (unmarked two) s) (sym suspense_is) (within_moved opens_one opens_two image two doubt marked (each image left)))

-- or now what is added
pub stored_added : (opens_one opens_two : (List ℕ → List ℕ) → List (List ℕ) → Type 0) (two held added : List (List ℕ)) (disk : Disk)
    → has_marker two ≡ true → held ≡ unmarked two
    → EachNow disk (λ image. Within (opens_two image) two added) → EachNow disk (λ image. IsWithin (IsList opens_one opens_two image) held added)
stored_added opens_one opens_two two held added disk marked held_is now image left =
    subst (λ (h : List (List ℕ)). IsWithin (IsList opens_one opens_two image) h added) (sym held_is) (within_moved opens_one opens_two image two added marked (now image left))

-- calls on other channels leave a channel's tie, at each moment
pub tie_since : {theirs : List ℕ → Type 0} (opens_one opens_two : (List ℕ → List ℕ) → List (List ℕ) → Type 0) (mine : List ℕ → Type 0) (old new : Disk) (held suspense : List (List ℕ))
    → IsImage old (reads old) → Grew theirs old new → ((file : List ℕ) → theirs file → mine file → ⊥)
    → ((one other : List ℕ → List ℕ) (list : List (List ℕ)) → ((file : List ℕ) → mine file → one file ≡ other file) → opens_one one list → opens_one other list)
    → ((one other : List ℕ → List ℕ) (list : List (List ℕ)) → ((file : List ℕ) → mine file → one file ≡ other file) → opens_two one list → opens_two other list)
    → EachNow old (λ image. IsWithin (IsList opens_one opens_two image) held suspense) → EachSince old new (λ image. IsWithin (IsList opens_one opens_two image) held suspense)
tie_since opens_one opens_two mine old new held suspense read grew apart by_one by_two now =
    opens_since (λ files. IsWithin (IsList opens_one opens_two files) held suspense) mine old new read grew apart
    (λ one other same is. within_by opens_one opens_two one other held suspense (λ list. by_one one other list same) (λ list. by_two one other list same) is) now
