-- A write and a sync of one file, and what a crash may leave of it meanwhile.
use Rattle.std.proofs.Common.{◌≡◌, ◌≤◌, ◌∙◌, ℕ, Bool, true, false, List, length, Result, Ok, Err, refl, sym, subst, ap, inl, inr, if◌then◌else◌, arith}
use Rattle.disk_volume.specs.Calls.{Writes, Syncs}
use Rattle.disk_volume.specs.Disk.{Act, File, Disk, did, wrote, synced, at_rest, after, file_at, reads, MayLeave, IsImage, AtRest, put, Partly}
use Rattle.disk_volume.specs.Moments.{Grew, still, more, OnlySyncs, no_sync, one_sync, EachSince, EachNow}
use Rattle.disk_volume.specs.Lemmas.Names.{file_at-here}
use Rattle.disk_volume.specs.Lemmas.Images.{rest_leaves, write_leaves}
use Rattle.disk_volume.specs.Lemmas.Since.{each_start, each_more, each_then, grew_then}

-- a call that was one act
one_act : (old new : Disk) (act : Act) (name : List ℕ) (P : (List ℕ → List ℕ) → Type 0) → new ≡ did act name old → EachNow old P → EachNow (did act name old) P → EachSince old new P
one_act old new act name P e first last = subst (λ disk. EachSince old disk P) (sym e) (each_more old old act name P (each_start old P first) last)

-- and one that did nothing
no_act : (old new : Disk) (P : (List ℕ → List ℕ) → Type 0) → new ≡ old → EachNow old P → EachSince old new P
no_act old new P e first = subst (λ disk. EachSince old disk P) (sym e) (each_start old P first)

-- a sync leaves nothing that could not be left before
synced_file : (here : Bool) (f : File) (bytes : List ℕ) → MayLeave f f.now → MayLeave (if here then after synced f else f) bytes → MayLeave f bytes
synced_file true f bytes as_read left = subst (MayLeave f) (sym (rest_leaves f.now bytes left)) as_read
synced_file false f bytes as_read left = left

pub synced_image : (disk : Disk) (name : List ℕ) → IsImage disk (reads disk) → EachNow (did synced name disk) (IsImage disk)
synced_image disk name as_read image left other = synced_file _ (file_at disk other) (image other) (as_read other) (left other)

-- since a sync began
pub settled_each : {T E : Type 0} (result : Result T E) (name : List ℕ) (old new : Disk) → IsImage old (reads old) → Syncs result name old new → EachSince old new (IsImage old)
settled_each (Ok done) name old new as_read e = one_act old new synced name (IsImage old) e (λ image now. now) (synced_image old name as_read)
settled_each (Err failed) name old new as_read e = no_act old new (IsImage old) e (λ image now. now)

-- a sync is an act on its file
pub settled_grew : {T E : Type 0} (result : Result T E) (name : List ℕ) (old new : Disk) → Syncs result name old new → Grew (λ file. file ≡ name) old new
settled_grew (Ok done) name old new e = subst (Grew (λ file. file ≡ name) old) (sym e) (more refl still)
settled_grew (Err failed) name old new e = subst (Grew (λ file. file ≡ name) old) (sym e) still

-- these files, of which one is as a write may have left it in part
abbrev Part : (name : List ℕ) (at size : ℕ) → Disk → (List ℕ → List ℕ) → Type 0
Part name at size old image = Partly at size (reads old name) (image name)

-- and no other act
pub settled_syncs : {T E : Type 0} (result : Result T E) (name : List ℕ) (old new : Disk) → Syncs result name old new → OnlySyncs (λ file. file ≡ name) old new
settled_syncs (Ok done) name old new e = subst (OnlySyncs (λ file. file ≡ name) old) (sym e) (one_sync refl no_sync)
settled_syncs (Err failed) name old new e = subst (OnlySyncs (λ file. file ≡ name) old) (sym e) no_sync

-- before the write
part_before : (name : List ℕ) (at size : ℕ) (old : Disk) → AtRest old name → EachNow old (Part name at size old)
part_before name at size old rest image left =
    let same : image name ≡ reads old name = rest_leaves (reads old name) (image name) (subst (λ f. MayLeave f (image name)) rest (left name)) in
    subst (Partly at size (reads old name)) (sym same) (record { before = refl; after = refl; no_shorter = omega arith; no_longer = omega arith })

-- after it
part_after : (name : List ℕ) (at size : ℕ) (now : List ℕ) (old : Disk) → AtRest old name → at ≤ length (reads old name) → EachNow (did (wrote at size now) name old) (Part name at size old)
part_after name at size now old rest within image left =
    let here : file_at (did (wrote at size now) name old) name ≡ after (wrote at size now) (at_rest (reads old name)) =
    file_at-here (wrote at size now) name old ∙ ap (after (wrote at size now)) rest in
    write_leaves (reads old name) at size now (image name) within (subst (λ f. MayLeave f (image name)) here (left name))

-- each crash since the write began
pub written_each : {T E : Type 0} (result : Result T E) (name : List ℕ) (at : ℕ) (piece : List ℕ) (old new : Disk) → AtRest old name → at ≤ length (reads old name)
    → Writes result name at piece old new → EachSince old new (Part name at (length piece) old)
written_each (Ok done) name at piece old new rest within e =
    one_act old new _ name (Part name at (length piece) old) e (part_before name at (length piece) old rest) (part_after name at (length piece) _ old rest within)
written_each (Err failed) name at piece old new rest within (inl e) = no_act old new (Part name at (length piece) old) e (part_before name at (length piece) old rest)
written_each (Err failed) name at piece old new rest within (inr part) =
    one_act old new _ name (Part name at (length piece) old) part.2 (part_before name at (length piece) old rest) (part_after name at (length piece) part.0 old rest within)

-- a write is an act on its file
pub written_grew : {T E : Type 0} (result : Result T E) (name : List ℕ) (at : ℕ) (piece : List ℕ) (old new : Disk) → Writes result name at piece old new → Grew (λ file. file ≡ name) old new
written_grew (Ok done) name at piece old new e = subst (Grew (λ file. file ≡ name) old) (sym e) (more refl still)
written_grew (Err failed) name at piece old new (inl e) = subst (Grew (λ file. file ≡ name) old) (sym e) still
written_grew (Err failed) name at piece old new (inr part) = subst (Grew (λ file. file ≡ name) old) (sym part.2) (more refl still)

-- each crash since a write and a sync began
pub both_each : {T E : Type 0} (result : Result T E) (name : List ℕ) (at : ℕ) (piece : List ℕ) (old mid new : Disk) → AtRest old name → at ≤ length (reads old name)
    → IsImage mid (reads mid) → mid ≡ did (wrote at (length piece) (put (reads old name) at piece)) name old → Syncs result name mid new → EachSince old new (Part name at (length piece) old)
both_each result name at piece old mid new rest within as_read e syncs =
    each_then old mid new (Part name at (length piece) old) (settled_grew result name mid new syncs)
    (one_act old mid _ name (Part name at (length piece) old) e (part_before name at (length piece) old rest) (part_after name at (length piece) _ old rest within))
    (λ image left. subst (λ disk. EachNow disk (Part name at (length piece) old)) (sym e) (part_after name at (length piece) _ old rest within) image
    (settled_each result name mid new as_read syncs image left))

pub both_grew : {T E : Type 0} (result : Result T E) (name : List ℕ) (at size : ℕ) (now : List ℕ) (old mid new : Disk) → mid ≡ did (wrote at size now) name old → Syncs result name mid new → Grew (λ file. file ≡ name) old new
both_grew result name at size now old mid new e syncs = grew_then new (subst (Grew (λ file. file ≡ name) old) (sym e) (more refl still)) (settled_grew result name mid new syncs)
