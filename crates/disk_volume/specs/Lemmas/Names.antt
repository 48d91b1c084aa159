-- The file of a name after an act on a file.
use Rattle.std.proofs.Common.{◌≡◌, List, ℕ, refl, true, false, bytes_eq, Bool}
use Rattle.std.proofs.lemmas.Slice.Eq.{bytes_eq-Decides}
use Rattle.disk_volume.specs.Disk.{Act, Disk, did, after, file_at}

pub same_name : (name : List ℕ) → bytes_eq name name ≡ true
same_name name = (bytes_eq-Decides name name).1 refl

pub other_name : (a b : List ℕ) → (a ≡ b → ⊥) → bytes_eq a b ≡ false
other_name a b differ = no (bytes_eq a b) (bytes_eq-Decides a b).0
  where
    no : (test : Bool) → (test ≡ true → a ≡ b) → test ≡ false
    no true same = absurd (differ (same refl))
    no false same = refl

-- the file that the act was on
pub file_at-here : (act : Act) (name : List ℕ) (disk : Disk) → file_at (did act name disk) name ≡ after act (file_at disk name)
file_at-here act name disk = rw (same_name name) refl

-- each other file
pub file_at-elsewhere : (act : Act) (other name : List ℕ) (disk : Disk) → (other ≡ name → ⊥) → file_at (did act other disk) name ≡ file_at disk name
file_at-elsewhere act other name disk differ = rw (other_name other name differ) refl
