-- Files of a channel's two logs, and what was done to them.
use Rattle.std.specs.Prelude.{◌⊎◌, ℕ, List}
use Rattle.disk_volume.specs.Disk.{Disk}
use Rattle.disk_volume.specs.Moments.{Grew, OnlySyncs}

-- files of the one or of the other
abbrev pub Either : (List ℕ → Type 0) → (List ℕ → Type 0) → List ℕ → Type 0
Either one two file = one file ⊎ two file

-- The later disk came from the earlier one by syncs of files of the one or of the other, and then by acts on files of the other alone.
-- So nothing was written to a file of the one.
pub record SyncsThenActs (one two : List ℕ → Type 0) (old new : Disk) : Type 0 where
  pub mid : Disk
  pub syncs : OnlySyncs (Either one two) old mid
  pub acts : Grew two mid new
