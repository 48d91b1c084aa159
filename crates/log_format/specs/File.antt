-- The bytes of a log file, and what a file opens as. A file is eight bytes, the magic, and then one entry after another:
-- a gate, the length of a payload, and the payload. One more gate stands at the end.
use Rattle.std.specs.Prelude.{◌≡◌, ℕ, zero, suc, ◌+◌, ◌==◌, ◌&&◌, nat_le, Bool, List, [], ◌∷◌, ◌++◌, length, take, drop, slice_index, Option, Some, None, if◌then◌else◌}
use Rattle.std.specs.Int.{w32, to_be_bytes, from_be_bytes}
use Rattle.std.specs.Str.{bytes_eq}
use Rattle.log_format.specs.declared.layout.TheConstants.{MAGIC_SIZE, ENTRY_HEAD, EMPTY_LOG}

-- what a gate leads to: the length of a payload, and the payload
abbrev pub record_of : List ℕ → List ℕ
record_of payload = to_be_bytes w32 (length payload) ++ payload

-- each payload's record behind an open gate
abbrev pub entries : List (List ℕ) → List ℕ
entries [] = []
entries (payload ∷ payloads) = 1 ∷ (record_of payload ++ entries payloads)

-- the file of these payloads
abbrev pub file : List ℕ → List (List ℕ) → List ℕ
file magic payloads = magic ++ (entries payloads ++ 0 ∷ [])

-- the length that stands behind a gate
abbrev pub size_at : List ℕ → ℕ
size_at gate = from_be_bytes w32 (take 4 (drop 1 gate))

-- from this gate on there is an entry: the gate is open, and the length, the payload and one more byte are there
abbrev pub is_entry : List ℕ → Bool
is_entry gate = (slice_index gate 0 == 1) && nat_le (ENTRY_HEAD + 1 + size_at gate) (length gate)

-- the payloads from a gate on, at most so many
abbrev pub payloads_from : ℕ → List ℕ → List (List ℕ)
payloads_from zero gate = []
payloads_from (suc most) gate = if is_entry gate then take (size_at gate) (drop ENTRY_HEAD gate) ∷ payloads_from most (drop (ENTRY_HEAD + size_at gate) gate) else []

-- the last gate from a gate on, with all that stands behind it, past so many entries at most
abbrev pub last_from : ℕ → List ℕ → List ℕ
last_from zero gate = gate
last_from (suc most) gate = if is_entry gate then last_from most (drop (ENTRY_HEAD + size_at gate) gate) else gate

-- The payloads that a file opens as. One of at most nine bytes has none, whatever it holds. A longer one that does not
-- begin with the magic opens as nothing.
abbrev pub opens : List ℕ → List ℕ → Option (List (List ℕ))
opens magic bytes =
    if nat_le (length bytes) EMPTY_LOG then Some [] else
    (if bytes_eq (take MAGIC_SIZE bytes) magic then Some (payloads_from (length bytes) (drop MAGIC_SIZE bytes)) else None)

-- the payloads that would follow, were the last gate open
abbrev pub doubt_of : List ℕ → List (List ℕ)
doubt_of bytes =
    if nat_le (length bytes) EMPTY_LOG then [] else
    (let last = last_from (length bytes) (drop MAGIC_SIZE bytes) in
    if slice_index last 0 == 0 then [] else payloads_from (length bytes) (1 ∷ drop 1 last))

-- these bytes are the entries of these payloads, each behind an open gate
abbrev pub IsEntries : List ℕ → List (List ℕ) → Type 0
IsEntries front [] = front ≡ []
IsEntries front (payload ∷ payloads) =
    (size : List ℕ) × (rest : List ℕ) × (length size ≡ 4) × (from_be_bytes w32 size ≡ length payload) × (front ≡ 1 ∷ (size ++ (payload ++ rest))) × IsEntries rest payloads
