-- Bytes are in order as their digits are.
use Rattle.std.proofs.Common.{◌≡◌, ℕ, suc, ◌/◌, ◌%◌, ◌<◌, inl, inr, List, [], ◌∷◌, refl, sym, ◌∙◌, ap, slice_index, arith}
use Rattle.std.specs.Ordering.{nat_cmp, ordering_then}
use Rattle.std.specs.declared.cmp.Ordering.{Ordering}
use Rattle.std.specs.declared.cmp.Ordering.TheVariants.{Less, Equal, Greater}
use Rattle.std.specs.Cmp.Lexicographic.{slice_cmp}
use Rattle.std.specs.Char.{digit_char}
use Rattle.std.proofs.lemmas.Bool.{cases_order, cases_lt}
use Rattle.std.proofs.lemmas.Bool.Decides.{nat_tests}
use Rattle.hex.specs.Hex.{IsBytes, encode_lower, encode_with, lower_digits}
use Rattle.pad_text.proofs.HexDigits.{digit_at, char_low, char_high}
use Rattle.pad_text.specs.Name.{AreOrderedByDigits}

lesser : (x y : ℕ) → x < y → nat_cmp x y ≡ Less
lesser x y less = grind (arith, nat_tests)

equal : (x : ℕ) → nat_cmp x x ≡ Equal
equal x = grind (arith, nat_tests)

greater : (x y : ℕ) → y < x → nat_cmp x y ≡ Greater
greater x y more = grind (arith, nat_tests)

-- the code of a digit grows with its value
grows : (d e : ℕ) → d < e → e < 16 → slice_index lower_digits d < slice_index lower_digits e
grows d e less small =
    let first : slice_index lower_digits d ≡ digit_char d = digit_at d (omega arith) in
    let second : slice_index lower_digits e ≡ digit_char e = digit_at e small in
    elim (cases_lt d 10) [
      | inl low ↦ elim (cases_lt e 10) [
        | inl low2 ↦ omega (arith, first, second, char_low d low, char_low e low2)
        | inr high2 ↦ omega (arith, first, second, char_low d low, char_high e high2)
      ]
      | inr high ↦ omega (arith, first, second, char_high d high, char_high e (omega arith))
    ]

abbrev digits_then : ℕ → ℕ → Ordering → Ordering
digits_then x y rest =
    ordering_then (nat_cmp (slice_index lower_digits (x / 16)) (slice_index lower_digits (y / 16)))
    (ordering_then (nat_cmp (slice_index lower_digits (x % 16)) (slice_index lower_digits (y % 16))) rest)

below : (x y : ℕ) (rest : Ordering) → x < y → y < 256 → digits_then x y rest ≡ Less
below x y rest less small = elim (cases_lt (x / 16) (y / 16)) [
  | inl high ↦ rw (lesser _ _ (grows (x / 16) (y / 16) high (omega arith)))
  | inr most ↦
      let same : x / 16 ≡ y / 16 = omega arith in
      let low : x % 16 < y % 16 = omega arith in
      rw (same, equal (slice_index lower_digits (y / 16)), lesser _ _ (grows (x % 16) (y % 16) low (omega arith)))
]

above : (x y : ℕ) (rest : Ordering) → y < x → x < 256 → digits_then x y rest ≡ Greater
above x y rest more small = elim (cases_lt (y / 16) (x / 16)) [
  | inl high ↦ rw (greater _ _ (grows (y / 16) (x / 16) high (omega arith)))
  | inr most ↦
      let same : x / 16 ≡ y / 16 = omega arith in
      let low : y % 16 < x % 16 = omega arith in
      rw (same, equal (slice_index lower_digits (y / 16)), greater _ _ (grows (y % 16) (x % 16) low (omega arith)))
]

alike : (x : ℕ) (rest : Ordering) → digits_then x x rest ≡ rest
alike x rest = rw (equal (slice_index lower_digits (x / 16)), equal (slice_index lower_digits (x % 16)))

byte : (x y : ℕ) (rest : Ordering) → x < 256 → y < 256 → ordering_then (nat_cmp x y) rest ≡ digits_then x y rest
byte x y rest first second = elim (cases_order x y) [
  | inl same ↦ rw (same, equal y) (sym (alike y rest))
  | inr (inl less) ↦ rw (lesser x y less) (sym (below x y rest less second))
  | inr (inr more) ↦ rw (greater x y more) (sym (above x y rest more first))
]

pub bytes-digits : (xs ys : List ℕ) → IsBytes xs → IsBytes ys → slice_cmp nat_cmp xs ys ≡ slice_cmp nat_cmp (encode_lower xs) (encode_lower ys)
unfolding encode_with
bytes-digits [] [] first second = refl
bytes-digits [] (y ∷ ys) first second = refl
bytes-digits (x ∷ xs) [] first second = refl
bytes-digits (x ∷ xs) (y ∷ ys) first second =
    byte x y (slice_cmp nat_cmp xs ys) (first 0) (second 0)
    ∙ ap (digits_then x y) (bytes-digits xs ys (λ i. first (suc i)) (λ i. second (suc i)))

pub names_digits : AreOrderedByDigits
names_digits first second one other = bytes-digits first.0 second.0 one other
