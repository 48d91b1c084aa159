-- The bytes that an append of several payloads under one gate writes behind the last gate.
use Rattle.std.specs.Prelude.{◌≡◌, ℕ, ◌≤◌, List, [], ◌∷◌, ◌++◌, length, map, sum_by, All}
use Rattle.log_format.specs.declared.frame.TheConstants.{LONGEST_PAYLOAD}
use Rattle.log_format.specs.declared.frames.TheConstants.{MOST_FRAMES}
use Rattle.log_format.specs.File.{entries, payloads_from}

-- how long these payloads are
abbrev pub sizes_of : List (List ℕ) → List ℕ
sizes_of payloads = map (λ (payload : List ℕ). length payload) payloads

-- how many bytes they have together
abbrev pub size_of : List (List ℕ) → ℕ
size_of payloads = sum_by (λ (payload : List ℕ). length payload) payloads

-- the payloads that follow a gate that is open in front of these bytes
abbrev pub payloads_behind : List ℕ → List (List ℕ)
payloads_behind bytes = payloads_from (length bytes) (1 ∷ bytes)

-- payloads that fit into one group: one at least, and each within the bound of a frame
pub record AreFew (payloads : List (List ℕ)) : Type 0 where
  pub some : 1 ≤ length payloads
  pub few : length payloads ≤ MOST_FRAMES
  pub small : All (λ payload. length payload ≤ LONGEST_PAYLOAD) payloads

-- These bytes, behind an open gate, are the entries of these payloads and a closed gate. So they are the first payload's
-- record, each further payload's with an open gate before it, and a closed gate.
pub record IsGroup (bytes : List ℕ) (payloads : List (List ℕ)) : Type 0 where
  pub bytes_are : 1 ∷ bytes ≡ entries payloads ++ 0 ∷ []
  pub few : AreFew payloads
