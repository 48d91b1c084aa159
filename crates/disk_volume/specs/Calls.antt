-- What a call did to a disk, by its answer.
use Rattle.std.specs.Prelude.{◌≡◌, ◌⊎◌, ℕ, ◌≤◌, List, length, take, Result, Ok, Err}
use Rattle.disk_volume.specs.Disk.{Disk, did, wrote, cut, synced, reads, put, Partly}

-- a write did all if it answered Ok, and else nothing or any part
abbrev pub Writes : {T E : Type 0} → Result T E → (name : List ℕ) (at : ℕ) (piece : List ℕ) (old new : Disk) → Type 0
Writes (Ok done) name at piece old new = new ≡ did (wrote at (length piece) (put (reads old name) at piece)) name old
Writes (Err failed) name at piece old new = (new ≡ old) ⊎ ((now : List ℕ) × Partly at (length piece) (reads old name) now × (new ≡ did (wrote at (length piece) now) name old))

-- a cut did all if it answered Ok, and else nothing or any part
abbrev pub Cuts : {T E : Type 0} → Result T E → (name : List ℕ) (to : ℕ) (old new : Disk) → Type 0
Cuts (Ok done) name to old new = new ≡ did (cut to (take to (reads old name))) name old
Cuts (Err failed) name to old new = (new ≡ old) ⊎ ((size : ℕ) × (to ≤ size) × (new ≡ did (cut to (take size (reads old name))) name old))

-- a sync counts only if it answered Ok
abbrev pub Syncs : {T E : Type 0} → Result T E → (name : List ℕ) (old new : Disk) → Type 0
Syncs (Ok done) name old new = new ≡ did synced name old
Syncs (Err failed) name old new = new ≡ old
