-- A name is what 64 lower-case digits spell.
use Rattle.std.proofs.Common.{◌≡◌, List, ℕ, length, ap, arith}
use Rattle.hex.specs.Hex.{encode_lower, lower_digits}
use Rattle.hex.proofs.HexLemmas.{length-encode_with}
use Rattle.pad_text.specs.Digits.{IsDigits}
use Rattle.pad_text.specs.declared.name.Name.{Name}
use Rattle.pad_text.proofs.CallerLemmas.{IsBytes-digits, IsDigits-bytes}
use Rattle.pad_json.specs.Name.{IsName}

-- the digits of a name
pub IsDigits-name : (name : Name) → IsName name → IsDigits 64 (encode_lower name.0)
IsDigits-name name is =
    let digits = IsDigits-bytes name.0 is.bytes in
    let size : length name.0 ≡ 32 = is.whole in
    let many = digits.as_many in
    record { as_many = omega arith; each = digits.each }

-- what 64 digits spell
pub IsName-digits : (name : Name) (text : List ℕ) → IsDigits 64 text → encode_lower name.0 ≡ text → IsName name
IsName-digits name text digits spelled =
    let size : length text ≡ 64 = digits.as_many in
    let twice = length-encode_with lower_digits name.0 in
    let same = ap length spelled in
    record { whole = omega arith; bytes = IsBytes-digits name.0 (rw spelled digits.each) }

-- for the functions that read and write a name
pub ruleset names = (IsDigits-name, IsName-digits)
