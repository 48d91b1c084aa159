-- Numbers as they are written: digits, without a space.
use Rattle.std.proofs.Common.{◌≡◌, ◌≢◌, ℕ, ◌^◌, ◌<◌, ◌≤◌, ◌⊎◌, inl, inr, Bool, true, false, not, ◌&&◌, ◌==◌, List, [], ◌∷◌, length, get_or, Ok, Err, Some, None, Option, Result, refl, sym, ap, ◌∙◌, subst, arith, rules}
use Rattle.std.specs.Prelude.{decimal}
use Rattle.std.specs.Char.{is_ascii_digit}
use Rattle.std.specs.Str.{all_ascii_digits}
use Rattle.std.specs.Str.Parse.{AllDigits, digits_value, ParsesUnsigned}
use Rattle.std.specs.Result.{OkIff, result_ok}
use Rattle.std.specs.Option.{IfNone, IfSome}
use Rattle.std.proofs.lemmas.Bool.{and_parts, cases_lt}
use Rattle.std.proofs.lemmas.Bool.Decides.{nat_tests}
use Rattle.std.proofs.lemmas.Str.Parse.{IsNumeralModel, numerals_by_value, tells_all_ascii_digits, parse_plain}
use Rattle.std.proofs.lemmas.Fmt.{digits_decimal, digits_value-decimal, decimal-digits_value, decimal_injective, parse-decimal, first_decimal, decimal_digit, decimal_nonempty}
use Rattle.pad_script.specs.Parts.{space}
use Rattle.pad_script.specs.Inside.Words.{BeginsAsNumber, has_no_space}

-- texts of decimal digits, and their values
abbrev IsNumber : List ℕ → Type 0
IsNumber text = all_ascii_digits text ≡ true

numbers : IsNumeralModel IsNumber (digits_value 10)
numbers = numerals_by_value _ tells_all_ascii_digits

no_space_in_digit : (byte : ℕ) → is_ascii_digit byte ≡ true → not (byte == space) ≡ true
no_space_in_digit byte is = grind (arith, nat_tests)

both : (first second : Bool) → first ≡ true → second ≡ true → (first && second) ≡ true
both first second one two = rw (one, two)

no_space_in_digits : (text : List ℕ) → all_ascii_digits text ≡ true → has_no_space text ≡ true
no_space_in_digits [] all = refl
no_space_in_digits (byte ∷ text) all =
    let parts = and_parts (is_ascii_digit byte) (all_ascii_digits text) all in
    both (not (byte == space)) (has_no_space text) (no_space_in_digit byte parts.0) (no_space_in_digits text parts.1)

-- no space stands in a number
pub no_space_in_number : (number : ℕ) → number < 2 ^ 64 → has_no_space (decimal number) ≡ true
no_space_in_number number small = no_space_in_digits (decimal number) (digits_decimal numbers number small)

-- a number begins with a zero only where it has no other digit
pub zero_alone : (number : ℕ) (text : List ℕ) → number < 2 ^ 64 → text ≡ decimal number → get_or text 0 0 ≡ 48 → length text ≡ 1
zero_alone number text small written zero = elim (cases_lt 0 number) [
  | inl more ↦
      let first = first_decimal number more small in
      let same : get_or text 0 0 ≡ get_or (decimal number) 0 0 = ap (λ (digits : List ℕ). get_or digits 0 0) written in
      absurd (omega (arith, first, same, zero))
  | inr none ↦
      let nothing : number ≡ 0 = omega (arith, none) in
      ap length (written ∙ (ap decimal nothing ∙ decimal_digit 0 (omega arith)))
]

-- a number begins with no sign
pub no_sign : (number : ℕ) (text : List ℕ) → number < 2 ^ 64 → text ≡ decimal number → get_or text 0 0 ≢ 43
no_sign number text small written sign = elim (cases_lt 0 number) [
  | inl more ↦
      let first = first_decimal number more small in
      let same : get_or text 0 0 ≡ get_or (decimal number) 0 0 = ap (λ (digits : List ℕ). get_or digits 0 0) written in
      absurd (omega (arith, first, same, sign))
  | inr none ↦
      let nothing : number ≡ 0 = omega (arith, none) in
      let zero : text ≡ 48 ∷ [] = written ∙ (ap decimal nothing ∙ decimal_digit 0 (omega arith)) in
      let same : get_or text 0 0 ≡ 48 = ap (λ (digits : List ℕ). get_or digits 0 0) zero in
      absurd (omega (arith, same, sign))
]

-- a number begins as one
pub begins_as_number : (number : ℕ) (text : List ℕ) → number < 2 ^ 64 → text ≡ decimal number → BeginsAsNumber text
begins_as_number number [] small written = tt
begins_as_number number (byte ∷ []) small written = no_sign number (byte ∷ []) small written
begins_as_number number (byte ∷ next ∷ rest) small written =
    (no_sign number (byte ∷ next ∷ rest) small written, λ zero. let size = zero_alone number (byte ∷ next ∷ rest) small written zero in absurd (omega (arith, size)))

signless : (text : List ℕ) → BeginsAsNumber text → get_or text 0 0 ≢ 43
signless [] begins same = absurd (omega (arith, same))
signless (byte ∷ []) begins same = begins same
signless (byte ∷ next ∷ rest) begins same = begins.0 same

zeroless : (text : List ℕ) → BeginsAsNumber text → get_or text 0 0 ≡ 48 → length text ≡ 1
zeroless [] begins same = absurd (omega (arith, same))
zeroless (byte ∷ []) begins same = refl
zeroless (byte ∷ next ∷ rest) begins same = absurd (begins.1 same)

-- what is parsed of a text that begins so is the number as it is written
pub number_some : {E : Type 0} (bits : ℕ) (text : List ℕ) (parsed : Result ℕ E) → 2 ^ bits ≤ 2 ^ 64 → ParsesUnsigned {E = E} bits 10 text parsed → BeginsAsNumber text
    → IfSome (result_ok parsed) (λ number. (text ≡ decimal number) × (number < 2 ^ bits))
number_some {E} bits text (Ok number) few parses begins =
    let plain = parse_plain numbers {E = E} bits text (Ok number) parses (signless text begins) in
    let small : digits_value 10 text < 2 ^ 64 = omega (arith, plain.0.2, few) in
    (sym (decimal-digits_value numbers text plain.0.0 plain.0.1 (zeroless text begins) small) ∙ ap decimal (sym plain.1), omega (arith, plain.0.2, plain.1))
number_some bits text (Err error) few parses begins = tt

-- and each number is parsed
pub number_none : {E : Type 0} (bits : ℕ) (text : List ℕ) (parsed : Result ℕ E) → 2 ^ bits ≤ 2 ^ 64 → ParsesUnsigned {E = E} bits 10 text parsed
    → IfNone (result_ok parsed) ((number : ℕ) → number < 2 ^ bits → text ≢ decimal number)
number_none bits text (Ok number) few parses = tt
number_none {E} bits text (Err error) few parses =
    λ number small written. let found : Err error ≡ Ok number = parse-decimal {E = E} bits number text (Err error) small (omega (arith, small, few)) written parses in absurd (cc)

-- a number that is not in a range is written as none that is
pub not_within : (text : List ℕ) (number least most other : ℕ) → text ≡ decimal number → number < 2 ^ 32 → most < 2 ^ 32 → ¬ ((least ≤ number) × (number ≤ most))
    → least ≤ other → other ≤ most → text ≢ decimal other
not_within text number least most other written small few out above below same =
    let equal : number ≡ other = decimal_injective number other (omega (arith, small)) (omega (arith, few, below)) (sym written ∙ same) in
    out (omega (arith, equal, above), omega (arith, equal, below))
