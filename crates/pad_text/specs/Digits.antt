-- Hexadecimal digits in lower case.
use Rattle.std.specs.Prelude.{◌≡◌, ℕ, List, length, Bool, ◌&&◌, ◌||◌, nat_le}
use Rattle.std.specs.List.{AllPass}

-- `0` to `9`, or `a` to `f`
abbrev pub is_lower_digit : ℕ → Bool
is_lower_digit byte = (nat_le 48 byte && nat_le byte 57) || (nat_le 97 byte && nat_le byte 102)

-- the text is so many lower-case hexadecimal digits, and nothing else
pub record IsDigits (count : ℕ) (text : List ℕ) : Type 0 where
  pub as_many : length text ≡ count
  pub each : AllPass is_lower_digit text
