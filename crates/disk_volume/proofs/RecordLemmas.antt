-- The disk of a volume in memory after a call, from its record.
use Rattle.std.proofs.Common.{◌≡◌, ◌∙◌, ◌≤◌, ℕ, Bool, true, false, List, [], ◌∷◌, ◌++◌, length, Result, Ok, Err, sym, ap, subst, ap₂, inl, inr, ⊎_elim, ◌⊎◌, arith, IsErr, MatchBool}
use Rattle.disk_volume.specs.Clock.{Ticked}
use Rattle.disk_volume.specs.Calls.{Writes, Cuts}
use Rattle.disk_volume.specs.Disk.{began, file_at, reads, put, MayLeave, IsImage}
use Rattle.disk_volume.specs.Folder.{bytes_in}
use Rattle.disk_volume.specs.Lemmas.Images.{put_is_part}
use Rattle.disk_volume.specs.Memory.{Memory, fresh, disk_of, Records}
use Rattle.disk_volume.specs.Lemmas.Replay.{replay-push}
use Rattle.disk_volume.specs.Lemmas.Sound.{left_by_image}
use Rattle.disk_volume.specs.Step.{Step, writes, cuts, after_step, replay}
use Rattle.disk_volume.specs.Stop.{stops_in, left_by}

-- a call that is in the record
pub disk_more : (old new : Memory) (call : List ℕ × Step) → new.first ≡ old.first → new.done ≡ old.done ++ call ∷ [] → disk_of new ≡ after_step call (disk_of old)
disk_more old new call first done = ap₂ (λ files calls. replay (began (bytes_in files)) calls) first done ∙ replay-push (began (bytes_in old.first)) old.done call

-- and one that is not
pub disk_same : (old new : Memory) → new.first ≡ old.first → new.done ≡ old.done → disk_of new ≡ disk_of old
disk_same old new first done = ap₂ (λ files calls. replay (began (bytes_in files)) calls) first done

-- a growth was refused
pub records_refused : {T E : Type 0} (result : Result T E) (call : List ℕ × Step) (old new : Memory) → IsErr result → new.done ≡ old.done → Ticked old.starved new.starved → Records result call old new
records_refused (Ok done) call old new failed same rose = cc
records_refused (Err failure) call old new failed same rose = choose (stops_in old.stop old.calls)
  where
    choose : (test : Bool) → MatchBool test ((new.done ≡ old.done ++ call ∷ []) ⊎ ((new.done ≡ old.done) × Ticked old.starved new.starved)) (new.done ≡ old.done)
    choose true = inr (same, rose)
    choose false = same

-- where a call failed, the record has it or is as it was
either_done : (test : Bool) (P Q R : Type 0) → MatchBool test (P ⊎ (Q × R)) Q → P ⊎ Q
either_done true P Q R records = ⊎_elim (λ whole. inl whole) (λ nothing. inr nothing.0) records
either_done false P Q R same = inr same

pub record_writes : {T E : Type 0} (result : Result T E) (name : List ℕ) (at : ℕ) (piece : List ℕ) (old new : Memory) → at ≤ length (reads (disk_of old) name) → new.first ≡ old.first
    → Records result (name, writes at piece) old new → Writes result name at piece (disk_of old) (disk_of new)
record_writes (Ok done) name at piece old new within first records = disk_more old new (name, writes at piece) first records
record_writes (Err failed) name at piece old new within first records =
    ⊎_elim (λ whole. inr (put (reads (disk_of old) name) at piece, put_is_part (reads (disk_of old) name) at piece within, disk_more old new (name, writes at piece) first whole))
    (λ same. inl (disk_same old new first same)) (either_done (stops_in old.stop old.calls) _ _ _ records)

pub record_cuts : {T E : Type 0} (result : Result T E) (name : List ℕ) (to : ℕ) (old new : Memory) → new.first ≡ old.first
    → Records result (name, cuts to) old new → Cuts result name to (disk_of old) (disk_of new)
record_cuts (Ok done) name to old new first records = disk_more old new (name, cuts to) first records
record_cuts (Err failed) name to old new first records =
    ⊎_elim (λ whole. inr (to, omega arith, disk_more old new (name, cuts to) first whole)) (λ same. inl (disk_same old new first same))
    (either_done (stops_in old.stop old.calls) _ _ _ records)

-- what a stop leaves is one of the images
pub left_possible : (memory : Memory) (files : List (List ℕ × List ℕ)) → ((name : List ℕ) → bytes_in files name ≡ left_by memory.stop (file_at (disk_of memory) name))
    → (image : Memory) → image ≡ fresh files [] → IsImage (disk_of memory) (reads (disk_of image))
left_possible memory files left image new name =
    let same : reads (disk_of image) name ≡ left_by memory.stop (file_at (disk_of memory) name) = ap (λ volume. reads (disk_of volume) name) new ∙ left name in
    subst (MayLeave (file_at (disk_of memory) name)) (sym same) (left_by_image memory.stop (bytes_in memory.first) memory.done name)
