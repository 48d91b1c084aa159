-- The disk of a record: what it reads, and that this is one of its images.
use Rattle.std.proofs.Common.{◌≡◌, ℕ, Bool, true, false, List, [], ◌∷◌, ◌++◌, refl, sym, ap, bytes_eq, if◌then◌else◌}
use Rattle.std.proofs.lemmas.Slice.Eq.{bytes_eq-Decides}
use Rattle.disk_volume.specs.Disk.{Disk, after, file_at, reads}
use Rattle.disk_volume.specs.Folder.{bytes_in}
use Rattle.disk_volume.specs.Inside.Folder.{ChangesFile}
use Rattle.disk_volume.specs.Step.{Step, writes, cuts, syncs, changed, act_of, after_step, replay}

-- one call more
pub replay-push : (disk : Disk) (calls : List (List ℕ × Step)) (call : List ℕ × Step) → replay disk (calls ++ call ∷ []) ≡ after_step call (replay disk calls)
replay-push disk [] call = refl
replay-push disk (first ∷ calls) call = replay-push (after_step first disk) calls call

step_reads : (step : Step) (disk : Disk) (file name : List ℕ) (here : Bool) → (here ≡ true → file ≡ name)
    → (if here then after (act_of step (reads disk file)) (file_at disk name) else file_at disk name).now ≡ (if here then changed step (reads disk file) else reads disk name)
step_reads (writes at piece) disk file name true same = refl
step_reads (cuts to) disk file name true same = refl
step_reads syncs disk file name true same = ap (reads disk) (sym (same refl))
step_reads step disk file name false same = refl

-- a call changes what is read of its file
pub reads-after_step : (call : List ℕ × Step) (disk : Disk) (name : List ℕ) → reads (after_step call disk) name ≡ (if bytes_eq call.0 name then changed call.1 (reads disk call.0) else reads disk name)
reads-after_step call disk name = step_reads call.1 disk call.0 name (bytes_eq call.0 name) (bytes_eq-Decides call.0 name).0

-- files that read as a disk does go on so after one call more on both
pub reads_more : (first : Disk) (calls : List (List ℕ × Step)) (call : List ℕ × Step) (files new : List (List ℕ × List ℕ)) → ((name : List ℕ) → bytes_in files name ≡ reads (replay first calls) name)
    → ChangesFile call.0 (changed call.1 (bytes_in files call.0)) files new → (name : List ℕ) → bytes_in new name ≡ reads (replay first (calls ++ call ∷ [])) name
reads_more first calls call files new same changes name =
    rw (replay-push first calls call, reads-after_step call (replay first calls) name, ← same call.0, ← same name) (changes name)
