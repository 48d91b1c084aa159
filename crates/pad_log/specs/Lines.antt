-- The lines that tell the entries of a channel.
use Rattle.std.specs.Prelude.{ℕ, suc, List, [], ◌∷◌, ◌++◌, length, codes, decimal}
use Rattle.serde_json.specs.Data.{string}
use Rattle.serde_json.specs.Written.{compact_text}
use Rattle.keeper_entry.specs.Entry.{moment_in, sender_in, content_in}

-- the JSON string of a text in UTF-8 (RFC 8259, section 7)
abbrev pub json_string_of_bytes : List ℕ → List ℕ
json_string_of_bytes bytes = compact_text (string bytes)

-- the two numbers in front of a line
abbrev pub numbers_of : (index moment : ℕ) → List ℕ
numbers_of index moment = decimal index ++ codes " " ++ decimal moment

-- what follows them: a sender and a JSON string, a space in front of each, and the line's end
abbrev pub rest_of : (sender told : List ℕ) → List ℕ
rest_of sender told = codes " " ++ sender ++ codes " " ++ told ++ codes "\n"

-- the line of the entry in a payload: its index, its moment, its sender, and its content as a JSON string
abbrev pub line_of_entry : (index : ℕ) (payload : List ℕ) → List ℕ
line_of_entry index payload = numbers_of index (moment_in payload) ++ rest_of (sender_in payload) (json_string_of_bytes (content_in payload))

-- the line that tells how many entries there are
abbrev pub line_of_count : (total : ℕ) → List ℕ
line_of_count total = codes "entries " ++ decimal total ++ codes "\n"

-- the lines of the entries in payloads, of which the first has this index
abbrev pub lines_from : (index : ℕ) → List (List ℕ) → List ℕ
lines_from index [] = []
lines_from index (payload ∷ payloads) = line_of_entry index payload ++ lines_from (suc index) payloads

-- all that tells a channel's list: the lines of its entries, and how many there are
abbrev pub log_text : List (List ℕ) → List ℕ
log_text payloads = lines_from 0 payloads ++ line_of_count (length payloads)
