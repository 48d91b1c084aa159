-- Names as JSON strings.
use Rattle.std.specs.Prelude.{◌≡◌, length}
use Rattle.serde_json.specs.Data.{Data, string}
use Rattle.hex.specs.Hex.{IsBytes, encode_lower}
use Rattle.pad_text.specs.declared.name.Name.{Name}

-- the name has 32 bytes
pub record IsName (name : Name) : Type 0 where
  pub whole : length name.0 ≡ 32
  pub bytes : IsBytes name.0

-- the string of the name's 64 lower-case hexadecimal digits
abbrev pub name_data : Name → Data
name_data name = string (encode_lower name.0)
