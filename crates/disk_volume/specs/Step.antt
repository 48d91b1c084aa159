-- What calls do to the bytes of files.
use Rattle.std.specs.Prelude.{ℕ, ◌+◌, Bool, true, false, ◌&&◌, List, [], ◌∷◌, length, take, bytes_eq}
use Rattle.disk_volume.specs.Disk.{Act, wrote, cut, synced, Disk, did, reads, put}
use Rattle.disk_volume.specs.Pick.{torn}

-- a change of a file
pub data Step : Type 0 where
  -- these bytes were written from this offset on
  writes : (at : ℕ) (piece : List ℕ) → Step
  -- it was cut to this length
  cuts : (to : ℕ) → Step
  -- a sync answered Ok
  syncs : Step

-- the bytes after it
abbrev pub changed : Step → List ℕ → List ℕ
changed (writes at piece) bytes = put bytes at piece
changed (cuts to) bytes = take to bytes
changed syncs bytes = bytes

-- the act that it is on a file that reads so
abbrev pub act_of : Step → List ℕ → Act
act_of (writes at piece) bytes = wrote at (length piece) (put bytes at piece)
act_of (cuts to) bytes = cut to (take to bytes)
act_of syncs bytes = synced

-- a disk after one more call on the file of a name
abbrev pub after_step : List ℕ × Step → Disk → Disk
after_step call disk = did (act_of call.1 (reads disk call.0)) call.0 disk

-- a disk after these calls, in their order
abbrev pub replay : Disk → List (List ℕ × Step) → Disk
replay disk [] = disk
replay disk (call ∷ calls) = replay (after_step call disk) calls
