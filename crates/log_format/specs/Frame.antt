-- The bytes that an append of one payload writes behind the last gate.
use Rattle.std.specs.Prelude.{◌≡◌, ℕ, ◌-◌, ◌≤◌, List, [], ◌∷◌, ◌++◌, length, take, drop}
use Rattle.log_format.specs.declared.frame.TheConstants.{LONGEST_PAYLOAD}
use Rattle.log_format.specs.declared.layout.TheConstants.{ENTRY_HEAD}
use Rattle.log_format.specs.File.{record_of}

-- the payload in a frame: all between the length and the closed gate
abbrev pub payload_of : List ℕ → List ℕ
payload_of bytes = take (length bytes - ENTRY_HEAD) (drop (ENTRY_HEAD - 1) bytes)

-- a payload's record and a closed gate
pub record IsFrame (bytes payload : List ℕ) : Type 0 where
  pub bytes_are : bytes ≡ record_of payload ++ 0 ∷ []
  pub small : length payload ≤ LONGEST_PAYLOAD
