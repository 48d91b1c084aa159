-- What a crash may leave at one offset of a file.
use Rattle.std.specs.Prelude.{◌≡◌, ℕ, ◌<◌, slice_index}
use Rattle.disk_volume.specs.Disk.{File, Outside}

-- the old byte, if the offset is neither written nor loose
abbrev pub MayHold : File → (place byte : ℕ) → Type 0
MayHold f place byte = place < f.loose → Outside f.written place → byte ≡ slice_index f.stood place
