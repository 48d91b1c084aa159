-- Plain texts: no number of a JSON text (RFC 8259) has a sign, a fraction or an exponent.
use Rattle.std.specs.Prelude.{ℕ, List, [], ◌∷◌, Bool, true, not, ◌&&◌, ◌||◌, ◌==◌, if◌then◌else◌}

-- the code of `"`
abbrev pub quote : ℕ
quote = 34

-- the code of `\`
abbrev pub backslash : ℕ
backslash = 92

-- one of `-`, `+`, `.`, `e` and `E`
abbrev pub is_sign : ℕ → Bool
is_sign byte = byte == 45 || byte == 43 || byte == 46 || byte == 101 || byte == 69

abbrev mutual
  -- no sign stands outside the strings of the text; a `"` begins a string
  pub plain : List ℕ → Bool
  plain [] = true
  plain (byte ∷ bytes) = if byte == quote then plain_in_string bytes else not (is_sign byte) && plain bytes

  -- the same of what follows in a string, which the next `"` ends; a `\` and the byte behind it are passed over together
  pub plain_in_string : List ℕ → Bool
  plain_in_string [] = true
  plain_in_string (byte ∷ bytes) = if byte == quote then plain bytes else if byte == backslash then plain_escaped bytes else plain_in_string bytes

  -- the same behind a `\` in a string
  pub plain_escaped : List ℕ → Bool
  plain_escaped [] = true
  plain_escaped (byte ∷ bytes) = plain_in_string bytes
