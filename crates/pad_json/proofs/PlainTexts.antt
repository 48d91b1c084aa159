-- The compact text of a simple value is plain.
use Rattle.std.proofs.Common.{◌≡◌, ℕ, ◌+◌, ◌/◌, ◌%◌, ◌^◌, ◌<◌, Bool, true, false, cond, inl, inr, List, [], ◌∷◌, ◌++◌, decimal, refl, sym, ap, ◌∙◌, append_assoc, append-nil, arith}
use Rattle.std.specs.Prelude.{nat_lt}
use Rattle.std.specs.Char.{digit_char}
use Rattle.std.proofs.lemmas.Bool.{cases_lt, ne_eqb}
use Rattle.std.proofs.lemmas.Bool.Decides.{nat_tests}
use Rattle.std.proofs.lemmas.Fmt.{decimal_by_steps}
use Rattle.json.specs.Print.{escape, escape_byte, escape_letter, quoted}
use Rattle.serde_json.specs.Data.{unsigned, negative, float, Data, null, boolean, number, string, array, object, Items, no_items, item}
use Rattle.serde_json.specs.Written.{compact_text, items_text}
use Rattle.pad_text.specs.Plain.{plain, plain_in_string}
use Rattle.pad_json.specs.Data.{IsSimple, AreSimple}

-- these bytes change nothing for what stands behind them, outside the strings or in one
abbrev Keeps : (List ℕ → Bool) → List ℕ → Type 0
Keeps test xs = (ys : List ℕ) → test (xs ++ ys) ≡ test ys

keeps_append : (test : List ℕ → Bool) (xs ys : List ℕ) → Keeps test xs → Keeps test ys → Keeps test (xs ++ ys)
keeps_append test xs ys first second zs = ap test (append_assoc xs ys zs) ∙ (first (ys ++ zs) ∙ second zs)

-- a digit stands anywhere
digit : (d : ℕ) → d < 10 → Keeps plain ((48 + d) ∷ [])
digit d small ys = grind (arith, nat_tests)

keeps_decimal : (n : ℕ) → n < 2 ^ 64 → Keeps plain (decimal n)
keeps_decimal n small = decimal_by_steps (λ (n : ℕ) (ds : List ℕ). Keeps plain ds) digit
    (λ n ds from before. keeps_append plain ds ((48 + n % 10) ∷ []) before (digit (n % 10) (omega arith))) n small

-- a byte that is no quote and no backslash ends no string
inside : (x : ℕ) → (x ≡ 34 → ⊥) → (x ≡ 92 → ⊥) → Keeps plain_in_string (x ∷ [])
inside x quote backslash ys = rw (ne_eqb x 34 quote, ne_eqb x 92 backslash)

digit_inside : (d : ℕ) → Keeps plain_in_string (digit_char d ∷ [])
digit_inside d = elim (cases_lt d 10) [
  | inl low ↦ let code : digit_char d ≡ 48 + d = grind (arith, nat_tests) in inside (digit_char d) (λ e. omega arith) (λ e. omega arith)
  | inr high ↦ let code : digit_char d ≡ 87 + d = grind (arith, nat_tests) in inside (digit_char d) (λ e. omega arith) (λ e. omega arith)
]

-- what stands for a byte in a string ends no string
byte_cases : (x : ℕ) (short low : Bool) → nat_lt 0 (escape_letter x) ≡ short
    → Keeps plain_in_string (cond short (92 ∷ escape_letter x ∷ []) (cond low (92 ∷ 117 ∷ 48 ∷ 48 ∷ digit_char (x / 16) ∷ digit_char (x % 16) ∷ []) (x ∷ [])))
byte_cases x true low is ys = refl
byte_cases x false true is ys = digit_inside (x / 16) (digit_char (x % 16) ∷ ys) ∙ digit_inside (x % 16) ys
byte_cases x false false is ys =
    inside x (λ e. let letter : nat_lt 0 (escape_letter 34) ≡ false = ap (λ n. nat_lt 0 (escape_letter n)) (sym e) ∙ is in cc)
    (λ e. let letter : nat_lt 0 (escape_letter 92) ≡ false = ap (λ n. nat_lt 0 (escape_letter n)) (sym e) ∙ is in cc) ys

keeps_byte : (x : ℕ) → Keeps plain_in_string (escape_byte x)
unfolding escape_byte
keeps_byte x = byte_cases x _ _ refl

keeps_escape : (s : List ℕ) → Keeps plain_in_string (escape s)
keeps_escape [] ys = refl
keeps_escape (x ∷ s) ys = keeps_append plain_in_string (escape_byte x) (escape s) (keeps_byte x) (keeps_escape s) ys

keeps_quoted : (s : List ℕ) → Keeps plain (quoted s)
keeps_quoted s ys = ap (plain_in_string) (append_assoc (escape s) (34 ∷ []) ys) ∙ keeps_escape s (34 ∷ ys)

mutual
  keeps_text : (d : Data) → IsSimple d → Keeps plain (compact_text d)
  keeps_text null is ys = absurd is
  keeps_text (boolean b) is ys = absurd is
  keeps_text (number (unsigned n)) is ys = keeps_decimal n is ys
  keeps_text (number (negative z)) is ys = absurd is
  keeps_text (number (float x)) is ys = absurd is
  keeps_text (string s) is ys = keeps_quoted s ys
  keeps_text (array ds) is ys = keeps_items false ds is ys
  keeps_text (object ms) is ys = absurd is

  keeps_items : (later : Bool) (ds : Items) → AreSimple ds → Keeps plain (items_text later ds)
  keeps_items later no_items are ys = refl
  keeps_items false (item d ds) are ys = keeps_append plain (compact_text d) (items_text true ds) (keeps_text d are.0) (keeps_items true ds are.1) ys
  keeps_items true (item d ds) are ys = keeps_append plain (compact_text d) (items_text true ds) (keeps_text d are.0) (keeps_items true ds are.1) ys

pub compact_plain : (d : Data) → IsSimple d → plain (compact_text d) ≡ true
compact_plain d is = ap (plain) (sym (append-nil (compact_text d))) ∙ keeps_text d is []
