-- How the file of a log stands on a disk.
use Rattle.std.specs.Prelude.{◌≡◌, ℕ, ◌+◌, ◌≤◌, false, List, ◌∷◌, ◌++◌, length, Some}
use Rattle.disk_volume.specs.Disk.{Disk, file_at, at_rest, reads, AtRest}
use Rattle.log_format.specs.declared.layout.TheConstants.{MAGIC_SIZE, EMPTY_LOG}
use Rattle.log_format.specs.File.{is_entry, opens, IsEntries}
use Rattle.gated_log.specs.Ledger.{Within}

-- On this disk the file has these payloads behind open gates, and its last gate, with this byte, at this place.
-- Nothing is pending on it.
pub record Holds (magic name : List ℕ) (place byte : ℕ) (payloads : List (List ℕ)) (disk : Disk) : Type 0 where
  pub front : List ℕ
  pub rest : List ℕ
  pub is : IsEntries front payloads
  pub placed : place ≡ MAGIC_SIZE + length front
  pub bytes_are : file_at disk name ≡ at_rest (magic ++ (front ++ byte ∷ rest))
  pub shut : is_entry (byte ∷ rest) ≡ false

-- on this disk the file is too short for an entry, and nothing is pending on it
pub record IsShort (name : List ℕ) (disk : Disk) : Type 0 where
  pub rests : AtRest disk name
  pub short : length (reads disk name) ≤ EMPTY_LOG

-- a file opens as these payloads, or as these and those added
abbrev pub OpensWithin : (magic : List ℕ) (payloads added : List (List ℕ)) → List ℕ → Type 0
OpensWithin magic payloads added bytes = Within (λ (list : List (List ℕ)). opens magic bytes ≡ Some list) payloads added
