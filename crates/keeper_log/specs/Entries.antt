-- The payloads of entries.
use Rattle.std.specs.Prelude.{ℕ, ◌≤◌, List, length}
use Rattle.pad_message.specs.declared.content.TheConstants.{LONGEST_CONTENT}
use Rattle.keeper_entry.specs.Entry.{payload_of}
use Rattle.keeper_table.specs.declared.entry.Entry.{Entry}

-- the payload of an entry, whatever its index
abbrev pub payload_in : Entry → List ℕ
payload_in entry = payload_of entry.moment entry.sender entry.content

-- its content is no longer than a content may be
abbrev pub IsShort : Entry → Type 0
IsShort entry = length entry.content ≤ LONGEST_CONTENT
