-- What a crash may leave of a file that is cut to nothing.
use Rattle.std.proofs.Common.{◌≡◌, inl, inr, ℕ, zero, suc, List, [], ◌∷◌, length, take, Result, Some, Ok, Err, OnOk, refl, ◌∙◌, sym, ap, subst}
use Rattle.std.proofs.Math.Seq.{take-length, take-nil}
use Rattle.log_format.proofs.CallerLemmas.{opens-front}
use Rattle.log_format.specs.File.{opens}
use Rattle.gated_log.specs.Ledger.{LeavesOut}
use Rattle.disk_volume.specs.Calls.{Cuts, Syncs}
use Rattle.disk_volume.specs.Disk.{Disk, File, did, cut, synced, after, file_at, at_rest, reads, MayLeave, AtRest}
use Rattle.disk_volume.specs.Moments.{Grew, still, more, EachSince, EachNow}
use Rattle.disk_volume.specs.Lemmas.Images.{rest_leaves, cut_leaves}
use Rattle.disk_volume.specs.Lemmas.Names.{file_at-here}
use Rattle.disk_volume.specs.Lemmas.Since.{each_start, each_more}

-- some front of the file that it was
abbrev pub IsFront : (old : List ℕ) (bytes : List ℕ) → Type 0
IsFront old bytes = (size : ℕ) × (bytes ≡ take size old)

pub front_rest : (name : List ℕ) (disk : Disk) (old : List ℕ) → file_at disk name ≡ at_rest old → EachNow disk (λ image. IsFront old (image name))
front_rest name disk old rests image left =
    let P : File → Type 0 = λ f. MayLeave f (image name) in
    let same : image name ≡ old = rest_leaves old (image name) (subst P rests (left name)) in
    (length old, same ∙ sym (take-length old))

front_cut : (name : List ℕ) (to : ℕ) (now : List ℕ) (disk : Disk) → AtRest disk name → EachNow (did (cut to now) name disk) (λ image. IsFront (reads disk name) (image name))
front_cut name to now disk rests image left =
    let old = reads disk name in
    let P : File → Type 0 = λ f. MayLeave f (image name) in
    let is : file_at (did (cut to now) name disk) name ≡ after (cut to now) (at_rest old) = file_at-here (cut to now) name disk ∙ ap (after (cut to now)) rests in
    (length (image name), cut_leaves old to now (image name) (subst P is (left name)))

-- while it is cut
pub cut_each : {T E : Type 0} (result : Result T E) (name : List ℕ) (old new : Disk) → AtRest old name → Cuts result name 0 old new
    → EachSince old new (λ image. IsFront (reads old name) (image name))
cut_each (Ok done) name old new rests is =
    let P : Disk → Type 0 = λ disk. EachSince old disk (λ image. IsFront (reads old name) (image name)) in
    subst P (sym is) (each_more old old (cut 0 []) name (λ image. IsFront (reads old name) (image name))
    (each_start old (λ image. IsFront (reads old name) (image name)) (front_rest name old (reads old name) rests)) (front_cut name 0 [] old rests))
cut_each (Err failed) name old new rests (inl same) =
    let P : Disk → Type 0 = λ disk. EachSince old disk (λ image. IsFront (reads old name) (image name)) in
    subst P (sym same) (each_start old (λ image. IsFront (reads old name) (image name)) (front_rest name old (reads old name) rests))
cut_each (Err failed) name old new rests (inr (size, up, is)) =
    let P : Disk → Type 0 = λ disk. EachSince old disk (λ image. IsFront (reads old name) (image name)) in
    let now = take size (reads old name) in
    subst P (sym is) (each_more old old (cut 0 now) name (λ image. IsFront (reads old name) (image name))
    (each_start old (λ image. IsFront (reads old name) (image name)) (front_rest name old (reads old name) rests)) (front_cut name 0 now old rests))

pub cut_grew : {T E : Type 0} (result : Result T E) (name : List ℕ) (old new : Disk) → Cuts result name 0 old new → Grew (λ (file : List ℕ). file ≡ name) old new
cut_grew (Ok done) name old new is = let P : Disk → Type 0 = λ disk. Grew (λ (file : List ℕ). file ≡ name) old disk in subst P (sym is) (more refl still)
cut_grew (Err failed) name old new (inl same) = let P : Disk → Type 0 = λ disk. Grew (λ (file : List ℕ). file ≡ name) old disk in subst P (sym same) still
cut_grew (Err failed) name old new (inr (size, up, is)) = let P : Disk → Type 0 = λ disk. Grew (λ (file : List ℕ). file ≡ name) old disk in subst P (sym is) (more refl still)

-- and then synced
emptied : (name : List ℕ) (old mid : Disk) → mid ≡ did (cut 0 []) name old → file_at (did synced name mid) name ≡ at_rest []
emptied name old mid is =
    file_at-here synced name mid ∙ ap (λ (disk : Disk). after synced (file_at disk name)) is ∙ ap (after synced) (file_at-here (cut 0 []) name old)

pub emptied_each : {T E : Type 0} (result : Result T E) (name : List ℕ) (old mid new : Disk) → AtRest old name → mid ≡ did (cut 0 []) name old → Syncs result name mid new
    → EachSince old new (λ image. IsFront (reads old name) (image name))
emptied_each {T} {E} (Ok done) name old mid new rests is synced_is =
    let P : Disk → Type 0 = λ disk. EachSince old disk (λ image. IsFront (reads old name) (image name)) in
    subst P (sym synced_is) (each_more old mid synced name (λ image. IsFront (reads old name) (image name))
    (cut_each {T = T} {E = E} (Ok done) name old mid rests is) (λ image left.
    let now = front_rest name (did synced name mid) [] (emptied name old mid is) image left in (0, now.1 ∙ take-nil now.0)))
emptied_each {T} {E} (Err failed) name old mid new rests is same =
    let P : Disk → Type 0 = λ disk. EachSince old disk (λ image. IsFront (reads old name) (image name)) in
    subst P (sym same) (cut_each {T = E} {E = E} (Ok failed) name old mid rests is)

pub emptied_rests : {T E : Type 0} (result : Result T E) (name : List ℕ) (old mid new : Disk) → mid ≡ did (cut 0 []) name old → Syncs result name mid new
    → OnOk result (file_at new name ≡ at_rest [])
emptied_rests (Ok done) name old mid new is synced_is = ap (λ (disk : Disk). file_at disk name) synced_is ∙ emptied name old mid is
emptied_rests (Err failed) name old mid new is same = tt

pub emptied_grew : {T E : Type 0} (result : Result T E) (name : List ℕ) (old mid new : Disk) → mid ≡ did (cut 0 []) name old → Syncs result name mid new
    → Grew (λ (file : List ℕ). file ≡ name) old new
emptied_grew (Ok done) name old mid new is synced_is =
    let P : Disk → Type 0 = λ disk. Grew (λ (file : List ℕ). file ≡ name) old disk in
    subst P (sym synced_is) (more refl (subst P (sym is) (more refl still)))
emptied_grew (Err failed) name old mid new is same =
    let P : Disk → Type 0 = λ disk. Grew (λ (file : List ℕ). file ≡ name) old disk in subst P (sym (same ∙ is)) (more refl still)

-- the first payloads of a list are it with some left out
front_left : (count : ℕ) (payloads : List (List ℕ)) → LeavesOut (take count payloads) payloads
front_left zero payloads = tt
front_left (suc count) [] = tt
front_left (suc count) (payload ∷ payloads) = inl (refl, front_left count payloads)

-- so some front of a file opens as its list with some payloads left out
pub front_opens : (magic whole bytes : List ℕ) (payloads : List (List ℕ)) → length magic ≡ 8 → opens magic whole ≡ Some payloads → IsFront whole bytes
    → (left : List (List ℕ)) × LeavesOut left payloads × (opens magic bytes ≡ Some left)
front_opens magic whole bytes payloads eight opened front =
    let first = opens-front magic whole payloads front.0 eight opened in
    (take first.0 payloads, front_left first.0 payloads, ap (opens magic) front.1 ∙ first.1)
