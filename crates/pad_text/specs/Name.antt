-- Names are SHA-256 digests (FIPS 180-4), written in 64 lower-case hexadecimal digits.
use Rattle.std.specs.Prelude.{◌≡◌, ℕ, List}
use Rattle.std.specs.Ordering.{nat_cmp}
use Rattle.std.specs.declared.cmp.Ordering.TheVariants.{Less}
use Rattle.std.specs.Cmp.Lexicographic.{slice_cmp}
use Rattle.sha2.specs.Sha256.{sha256}
use Rattle.hex.specs.Hex.{IsBytes, encode_lower}
use Rattle.pad_text.specs.declared.name.Name.{Name}

-- the name that bytes give: their SHA-256
abbrev pub name_of_bytes : List ℕ → Name
name_of_bytes bytes = record { 0 = sha256 bytes }

-- the first name is the lesser one by its bytes
abbrev pub NameLess : Name → Name → Type 0
NameLess first second = slice_cmp nat_cmp first.0 second.0 ≡ Less

-- names are in order by their bytes as they are by their digits as text
abbrev pub AreOrderedByDigits : Type 0
AreOrderedByDigits = (first second : Name) → IsBytes first.0 → IsBytes second.0
    → slice_cmp nat_cmp first.0 second.0 ≡ slice_cmp nat_cmp (encode_lower first.0) (encode_lower second.0)
