-- The report of the messages received.
use Rattle.std.specs.Prelude.{◌≡◌, ℕ, List, ◌++◌, length, reverse, codes, decimal}
use Rattle.serde_json.specs.Data.{string}
use Rattle.serde_json.specs.Written.{compact_text}
use Rattle.hex.specs.Hex.{encode_lower}
use Rattle.pad_text.specs.declared.name.Name.{Name}
use Rattle.pad_text.specs.Hash.{document_hash}
use Rattle.pad_text.specs.Text.{utf8}
use Rattle.pad_message.specs.declared.message.Message.{Message}
use Rattle.pad_model.specs.declared.base.Base.{Base}
use Rattle.pad_model.specs.Path.{last_name, text}
use Rattle.pad_model.specs.Choice.{Choice, IsChoice}
use Rattle.pad_model.specs.Count.{AreCounts}

-- a line: a word, a space, a value, and the line's end
abbrev pub line : List ℕ → List ℕ → List ℕ
line word value = word ++ codes " " ++ value ++ codes "\n"

-- the 64 digits of a name
abbrev pub digits : Name → List ℕ
digits name = encode_lower name.0

-- a name and its height
abbrev pub place_text : Name → ℕ → List ℕ
place_text name height = digits name ++ codes " " ++ decimal height

-- the JSON string of a text (RFC 8259, section 7)
abbrev pub json_string : List ℕ → List ℕ
json_string units = compact_text (string (utf8 units))

-- the values of a report
pub record ReportValues : Type 0 where
  -- the chosen path: its last name, its height, and the text after it
  pub best : Name
  pub height : ℕ
  pub units : List ℕ
  -- the counts
  pub known : ℕ
  pub waiting : ℕ
  pub unreadable : ℕ
  -- the kept root, and its height
  pub root : Name
  pub root_height : ℕ
  pub kept : ℕ
  pub overtaken : ℕ

-- the eleven lines
abbrev pub report_lines : ReportValues → List ℕ
report_lines values =
    line (codes "best") (digits values.best)
    ++ line (codes "height") (decimal values.height)
    ++ line (codes "hash") (digits (document_hash values.units))
    ++ line (codes "units") (decimal (length values.units))
    ++ line (codes "known") (decimal values.known)
    ++ line (codes "waiting") (decimal values.waiting)
    ++ line (codes "unreadable") (decimal values.unreadable)
    ++ line (codes "root") (place_text values.root values.root_height)
    ++ line (codes "kept") (decimal values.kept)
    ++ line (codes "overtaken") (decimal values.overtaken)
    ++ line (codes "text") (json_string values.units)

-- the values of a report, of a choice and counts
abbrev pub report_values : Base → Choice → (known waiting unreadable kept : ℕ) → ReportValues
report_values base choice known waiting unreadable kept = record {
  best = last_name base choice.chosen;
  height = length choice.chosen;
  units = text base choice.chosen;
  known = known;
  waiting = waiting;
  unreadable = unreadable;
  root = last_name base choice.root;
  root_height = length choice.root;
  kept = kept;
  overtaken = choice.overtaken;
}

-- the bytes are the report of the messages received, in the order in which they came, and of this many other contents
pub record IsReport (base : Base) (received : List Message) (unreadable : ℕ) (bytes : List ℕ) : Type 0 where
  pub choice : Choice
  pub is_choice : IsChoice base (reverse received) choice
  pub known : ℕ
  pub waiting : ℕ
  pub kept : ℕ
  pub counts : AreCounts base received choice.root known waiting kept
  pub lines : bytes ≡ report_lines (report_values base choice known waiting unreadable kept)
