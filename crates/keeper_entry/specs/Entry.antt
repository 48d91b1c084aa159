-- The payloads that hold the entries of a channel in a log of form Two: eight bytes of the moment, the greatest first, 32
-- digits of the sender, and the content.
use Rattle.std.specs.Prelude.{◌≡◌, ℕ, ◌≤◌, List, ◌++◌, length, take, drop}
use Rattle.std.specs.Int.{w64, to_be_bytes, from_be_bytes}
use Rattle.std.specs.Str.{IsUtf8}
use Rattle.log_format.specs.declared.frame.TheConstants.{LONGEST_PAYLOAD}
use Rattle.pad_text.specs.Digits.{IsDigits}
use Rattle.keeper_entry.specs.declared.payload.TheConstants.{MOMENT_BYTES, SENDER_DIGITS, BEFORE_CONTENT}

-- the payload of an entry
abbrev pub payload_of : (moment : ℕ) (sender content : List ℕ) → List ℕ
payload_of moment sender content = to_be_bytes w64 moment ++ (sender ++ content)

-- what stands in a payload
abbrev pub moment_in : List ℕ → ℕ
moment_in payload = from_be_bytes w64 (take MOMENT_BYTES payload)

abbrev pub sender_in : List ℕ → List ℕ
sender_in payload = take SENDER_DIGITS (drop MOMENT_BYTES payload)

abbrev pub content_in : List ℕ → List ℕ
content_in payload = drop BEFORE_CONTENT payload

-- A payload holds an entry: it is neither shorter than a moment and a sender nor longer than a frame takes, the sender is
-- 32 lower-case hexadecimal digits, and the content is UTF-8.
pub record IsEntry (payload : List ℕ) : Type 0 where
  pub long : BEFORE_CONTENT ≤ length payload
  pub short : length payload ≤ LONGEST_PAYLOAD
  pub sender : IsDigits SENDER_DIGITS (sender_in payload)
  pub utf8 : IsUtf8 (content_in payload)
