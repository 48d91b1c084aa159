-- Contents: their limits, the mark that may stand in front, and what a content reads as.
use Rattle.std.specs.Prelude.{◌≡◌, ℕ, ◌≤◌, List, ◌++◌, length, drop, codes, nat_eq, if◌then◌else◌}
use Rattle.std.specs.List.{starts_with}
use Rattle.serde_json.specs.Data.{Data}
use Rattle.pad_json.specs.Spells.{Spells}
use Rattle.pad_message.specs.declared.content.TheConstants.{LONGEST_CONTENT, MOST_OPERATIONS}
use Rattle.pad_message.specs.declared.message.Message.{Message}
use Rattle.pad_message.specs.Data.{SpellsMessage}
use Rattle.pad_message.specs.Kind.{HasInterval}
use Rattle.pad_message.specs.Message.{IsMessage, compact}

-- the longest content, in bytes
abbrev pub longest_content : ℕ
longest_content = LONGEST_CONTENT

-- the most operations of a message in a content
abbrev pub most_operations : ℕ
most_operations = MOST_OPERATIONS

-- what may stand in front of a content
abbrev pub mark : List ℕ
mark = codes "cp|"

-- a content without the mark, where one stands in front; a second one stays
abbrev pub without_mark : List ℕ → List ℕ
without_mark content = if starts_with nat_eq content mark then drop (length mark) content else content

-- a content spells a message
pub record Reads (content : List ℕ) (message : Message) : Type 0 where
  -- it is not too long
  pub short : length content ≤ longest_content
  -- it is a plain JSON text
  pub value : Data
  pub text : Spells (without_mark content) value
  -- whose value is `[kind, [operation, .., before], parent]`, with the interval of a checkpoint as a fourth element
  pub spelled : SpellsMessage value message
  -- there are not too many operations, and a checkpoint's interval is one that it may have
  pub few : length message.patch.ops ≤ most_operations
  pub interval : HasInterval message.kind
  -- names have 64 digits, numbers 32 bits, and no surrogate stands alone
  pub typed : IsMessage message

-- the compact text of each message reads as the message, where it is not too long
abbrev pub CompactReads : Type 0
CompactReads = (message : Message) → IsMessage message → length message.patch.ops ≤ most_operations → HasInterval message.kind
    → length (compact message) ≤ longest_content → Reads (compact message) message

-- and so does the mark with the compact text behind it
abbrev pub MarkedReads : Type 0
MarkedReads = (message : Message) → IsMessage message → length message.patch.ops ≤ most_operations → HasInterval message.kind
    → length (mark ++ compact message) ≤ longest_content → Reads (mark ++ compact message) message

-- a content reads as at most one message
abbrev pub SpellsOne : Type 0
SpellsOne = (content : List ℕ) (first second : Message) → Reads content first → Reads content second → first ≡ second
