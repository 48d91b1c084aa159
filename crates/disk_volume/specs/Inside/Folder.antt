-- Changes of files by name.
use Rattle.std.specs.Prelude.{◌≡◌, ℕ, List, bytes_eq, if◌then◌else◌}
use Rattle.disk_volume.specs.Folder.{bytes_in}

-- each file has the bytes that it had
abbrev pub SameFiles : (old new : List (List ℕ × List ℕ)) → Type 0
SameFiles old new = (name : List ℕ) → bytes_in new name ≡ bytes_in old name

-- the file of this name has these bytes, and each other file those that it had
abbrev pub ChangesFile : (name bytes : List ℕ) (old new : List (List ℕ × List ℕ)) → Type 0
ChangesFile name bytes old new = (other : List ℕ) → bytes_in new other ≡ (if bytes_eq name other then bytes else bytes_in old other)
