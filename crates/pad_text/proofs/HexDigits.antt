-- Lower-case digits are what bytes are written as, and they are in order as the bytes are.
use Rattle.std.proofs.Common.{◌≡◌, ℕ, zero, suc, ◌+◌, ◌-◌, ◌*◌, ◌/◌, ◌%◌, ◌<◌, ◌≤◌, ◌==◌, ◌⊎◌, inl, inr, Bool, true, false, ◌&&◌, List, [], ◌∷◌, length, refl, sym, ◌∙◌, ap, slice_index, Some, Result, Ok, is_some, arith}
use Rattle.std.specs.Prelude.{nat_le}
use Rattle.std.specs.List.{AllPass}
use Rattle.std.specs.Char.{digit_char}
use Rattle.std.specs.Result.{is_ok, result_ok}
use Rattle.std.proofs.lemmas.Bool.{and_parts, or_cases, cases_lt, eqb-true}
use Rattle.std.proofs.lemmas.Bool.Decides.{nat_tests}
use borrow.Author.Tests.{leb-true}
use Rattle.std.proofs.lemmas.List.{get_or_past}
use Rattle.std.proofs.lemmas.List.Elements.{All-nil, All-cons, All-head, All-tail}
use Rattle.std.specs.Str.{IsUtf8}
use Rattle.std.proofs.lemmas.Str.{IsUtf8-from_ascii}
use Rattle.hex.specs.Hex.{IsBytes, decode_of, decode_pairs, decode_sized, encode_lower, encode_with, hex_digit_value, is_hex_digit, lower_digits}
use Rattle.hex.specs.declared.error.FromHexError.{FromHexError}
use Rattle.hex.proofs.HexLemmas.{decode_of-encode_lower, decode_of-even, decode_sized-twice, length-encode_with}
use Rattle.pad_text.specs.Digits.{IsDigits, is_lower_digit}

-- a digit is in one of the two ranges
ranges : (c : ℕ) → is_lower_digit c ≡ true → ((48 ≤ c) × (c ≤ 57)) ⊎ ((97 ≤ c) × (c ≤ 102))
ranges c is = elim (or_cases (nat_le 48 c && nat_le c 57) (nat_le 97 c && nat_le c 102) is) [
  | inl low ↦ let parts = and_parts _ _ low in inl (leb-true _ _ parts.0, leb-true _ _ parts.1)
  | inr high ↦ let parts = and_parts _ _ high in inr (leb-true _ _ parts.0, leb-true _ _ parts.1)
]

value_low : (c : ℕ) → 48 ≤ c → c ≤ 57 → hex_digit_value c ≡ Some (c - 48)
value_low c from to = grind (arith, nat_tests)

value_high : (c : ℕ) → 97 ≤ c → c ≤ 102 → hex_digit_value c ≡ Some (c - 87)
value_high c from to = grind (arith, nat_tests)

-- the table of digits, each place tested by computing
abbrev is_at : ℕ → Bool
is_at d = slice_index lower_digits d == digit_char d

abbrev are_below : ℕ → Bool
are_below zero = true
are_below (suc n) = is_at n && are_below n

below : (n d : ℕ) → are_below n ≡ true → d < n → is_at d ≡ true
below zero d h less = absurd (omega arith)
below (suc n) d h less =
    let parts = and_parts (is_at n) (are_below n) h in
    elim (cases_lt d n) [
      | inl lower ↦ below n d parts.1 lower
      | inr top ↦ let same : d ≡ n = omega arith in rw same parts.0
    ]

-- the digit at a place of the table
pub digit_at : (d : ℕ) → d < 16 → slice_index lower_digits d ≡ digit_char d
digit_at d less = eqb-true (slice_index lower_digits d) (digit_char d) (below 16 d refl less)

pub char_low : (d : ℕ) → d < 10 → digit_char d ≡ 48 + d
char_low d less = grind (arith, nat_tests)

pub char_high : (d : ℕ) → 10 ≤ d → digit_char d ≡ 87 + d
char_high d most = grind (arith, nat_tests)

-- what a lower-case digit reads as
record Value (c : ℕ) : Type 0 where
  value : ℕ
  small : value < 16
  reads : hex_digit_value c ≡ Some value
  again : slice_index lower_digits value ≡ c

value_of : (c : ℕ) → is_lower_digit c ≡ true → Value c
value_of c is = elim (ranges c is) [
  | inl low ↦ record {
    value = c - 48;
    small = omega (arith, low.0, low.1);
    reads = value_low c low.0 low.1;
    again = digit_at (c - 48) (omega (arith, low.0, low.1)) ∙ (char_low (c - 48) (omega (arith, low.0, low.1)) ∙ omega (arith, low.0, low.1));
  }
  | inr high ↦ record {
    value = c - 87;
    small = omega (arith, high.0, high.1);
    reads = value_high c high.0 high.1;
    again = digit_at (c - 87) (omega (arith, high.0, high.1)) ∙ (char_high (c - 87) (omega (arith, high.0, high.1)) ∙ omega (arith, high.0, high.1));
  }
]

lower-is_hex : (c : ℕ) → is_lower_digit c ≡ true → is_hex_digit c ≡ true
lower-is_hex c is = ap is_some (value_of c is).reads

-- lower-case digits decode, and are what their bytes are written as
record Decoded (at : ℕ) (text : List ℕ) : Type 0 where
  bytes : List ℕ
  reads : decode_pairs at text ≡ Ok bytes
  again : encode_lower bytes ≡ text

abbrev IsLower : ℕ → Type 0
IsLower c = is_lower_digit c ≡ true

decoded : (at : ℕ) (text : List ℕ) → length text % 2 ≡ 0 → AllPass is_lower_digit text → Decoded at text
unfolding decode_pairs encode_with
decoded at [] even each = record { bytes = []; reads = refl; again = refl }
decoded at (a ∷ []) even each = absurd (omega arith)
decoded at (a ∷ b ∷ rest) even each =
    let first = value_of a (All-head IsLower a (b ∷ rest) each) in
    let second = value_of b (All-head IsLower b rest (All-tail IsLower a (b ∷ rest) each)) in
    let left = decoded (at + 2) rest (omega arith) (All-tail IsLower b rest (All-tail IsLower a (b ∷ rest) each)) in
    let high : (first.value * 16 + second.value) / 16 ≡ first.value = omega (arith, first.small, second.small) in
    let low : (first.value * 16 + second.value) % 16 ≡ second.value = omega (arith, first.small, second.small) in
    record {
      bytes = (first.value * 16 + second.value) ∷ left.bytes;
      reads = rw (first.reads, second.reads, left.reads);
      again = rw (high, low, first.again, second.again, left.again);
    }

pub record Sized (count : ℕ) (text : List ℕ) : Type 0 where
  pub bytes : List ℕ
  pub reads : decode_sized text count ≡ Ok bytes
  pub again : encode_lower bytes ≡ text

pub digits-decode : (count : ℕ) (text : List ℕ) → IsDigits (2 * count) text → Sized count text
digits-decode count text digits =
    let size : length text ≡ 2 * count = digits.as_many in
    let even : length text % 2 ≡ 0 = omega arith in
    let d = decoded 0 text even digits.each in
    record {
      bytes = d.bytes;
      reads = decode_sized-twice text count size ∙ (decode_of-even text even ∙ d.reads);
      again = d.again;
    }

pub digits-refused : (count : ℕ) (text : List ℕ) (read : Result (List ℕ) FromHexError) → IsDigits (2 * count) text → read ≡ decode_sized text count → false ≡ is_ok read → ⊥
digits-refused count text read digits is refused =
    let good : is_ok read ≡ true = ap is_ok (is ∙ (digits-decode count text digits).reads) in
    cc

pub digits-again : (count : ℕ) (text bytes : List ℕ) (read : Result (List ℕ) FromHexError) → IsDigits (2 * count) text → read ≡ decode_sized text count → Some bytes ≡ result_ok read
    → encode_lower bytes ≡ text
digits-again count text bytes read digits is taken =
    let d = digits-decode count text digits in
    let same : Some bytes ≡ Some d.bytes = taken ∙ ap result_ok (is ∙ d.reads) in
    let equal : bytes ≡ d.bytes = cc in
    ap encode_lower equal ∙ d.again

-- nothing stands behind the table of digits
digit_below : (d : ℕ) → is_lower_digit (slice_index lower_digits d) ≡ true → d < 16
digit_below d is = elim (cases_lt d 16) [
  | inl small ↦ small
  | inr large ↦ let past : slice_index lower_digits d ≡ 0 = get_or_past lower_digits d 0 large in let none = rw past at is in absurd (cc)
]

bytes_below : (b : ℕ) (rest : List ℕ) → b < 256 → IsBytes rest → IsBytes (b ∷ rest)
bytes_below b rest first others zero = first
bytes_below b rest first others (suc i) = others i

no_bytes : IsBytes []
no_bytes i = omega arith

-- what is written in digits is bytes
pub IsBytes-digits : (xs : List ℕ) → AllPass is_lower_digit (encode_lower xs) → IsBytes xs
unfolding encode_with
IsBytes-digits [] each = no_bytes
IsBytes-digits (b ∷ rest) each =
    let first = slice_index lower_digits (b / 16) in
    let second = slice_index lower_digits (b % 16) in
    let left = second ∷ encode_lower rest in
    let high : b / 16 < 16 = digit_below (b / 16) (All-head IsLower first left each) in
    let others = All-tail IsLower second (encode_lower rest) (All-tail IsLower first left each) in
    bytes_below b rest (omega (arith, high)) (IsBytes-digits rest others)

-- and no others are written in the same digits
pub digits-same : (xs ys : List ℕ) → AllPass is_lower_digit (encode_lower xs) → encode_lower xs ≡ encode_lower ys → xs ≡ ys
digits-same xs ys each same =
    let first = decode_of-encode_lower xs (IsBytes-digits xs each) in
    let second = decode_of-encode_lower ys (IsBytes-digits ys (rw (← same) each)) in
    let equal : Some xs ≡ Some ys = ap result_ok (sym first ∙ (ap decode_of same ∙ second)) in
    cc

low_code : (c : ℕ) → 48 ≤ c → c ≤ 57 → is_lower_digit c ≡ true
low_code c from to = grind (arith, nat_tests)

high_code : (c : ℕ) → 97 ≤ c → c ≤ 102 → is_lower_digit c ≡ true
high_code c from to = grind (arith, nat_tests)

-- each place of the table has a digit
digit_in : (d : ℕ) → d < 16 → is_lower_digit (slice_index lower_digits d) ≡ true
digit_in d small =
    ap is_lower_digit (digit_at d small)
    ∙ elim (cases_lt d 10) [
      | inl low ↦ rw (char_low d low) (low_code (48 + d) (omega arith) (omega arith))
      | inr high ↦ rw (char_high d high) (high_code (87 + d) (omega arith) (omega arith))
    ]

each_digit : (xs : List ℕ) → IsBytes xs → AllPass is_lower_digit (encode_lower xs)
unfolding encode_with
each_digit [] are = All-nil IsLower
each_digit (b ∷ rest) are =
    let fits : b < 256 = are 0 in
    let second = slice_index lower_digits (b % 16) in
    All-cons IsLower (slice_index lower_digits (b / 16)) (second ∷ encode_lower rest) (digit_in (b / 16) (omega arith))
    (All-cons IsLower second (encode_lower rest) (digit_in (b % 16) (omega arith)) (each_digit rest (λ i. are (suc i))))

-- bytes are written in two digits each
pub IsDigits-bytes : (xs : List ℕ) → IsBytes xs → IsDigits (2 * length xs) (encode_lower xs)
IsDigits-bytes xs are = record { as_many = length-encode_with lower_digits xs; each = each_digit xs are }

-- digits are ASCII
pub IsUtf8-digits : (text : List ℕ) → AllPass is_lower_digit text → IsUtf8 text
IsUtf8-digits text each = IsUtf8-from_ascii text (λ i. elim (cases_lt i (length text)) [
  | inl within ↦ elim (ranges (slice_index text i) (each i 0 within)) [ inl low ↦ omega (arith, low.1) | inr high ↦ omega (arith, high.1) ]
  | inr past ↦ let none : slice_index text i ≡ 0 = get_or_past text i 0 past in omega arith
])
