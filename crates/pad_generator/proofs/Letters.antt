-- Texts of letters: no surrogate stands in them, so every place of them may be cut.
use Rattle.std.proofs.Common.{◌≡◌, ℕ, ◌-◌, ◌^◌, ◌<◌, ◌≤◌, true, List, [], ◌∷◌, ◌++◌, length, take, drop, ap, arith}
use Rattle.std.specs.Prelude.{Option, is_some, not, slice_index}
use Rattle.std.specs.List.{list_any}
use Rattle.std.specs.Char.Utf16.{is_high_surrogate, utf16_chars}
use Rattle.std.proofs.str.Utf16.{lone_unit_char_low}
use Rattle.std.proofs.lemmas.Bool.Decides.{nat_tests}
use Rattle.std.proofs.lemmas.List.Elements.{All-nil, All-cons, All-append, All-take, All-drop}
use Rattle.pad_text.specs.Text.{CutsPair, IsText}
use Rattle.pad_patch.specs.UnitStore.{replaced}
use Rattle.pad_generator.specs.Item.{letter_of}
use Rattle.pad_generator.specs.Inside.Letters.{AreLetters}

-- a high surrogate is no letter
high_large : (unit : ℕ) → is_high_surrogate unit ≡ true → 123 ≤ unit
high_large unit high = grind (arith, nat_tests)

-- no place of letters stands within a pair
pub letters_cut : (text : List ℕ) (place : ℕ) → AreLetters text → ¬ (CutsPair text place)
letters_cut text place letters cut =
    let within : place - 1 < length text = omega (arith, cut.after_start, cut.before_end) in
    let small : slice_index text (place - 1) ≤ 122 = (letters (place - 1) 0 within).1 in
    let large : 123 ≤ slice_index text (place - 1) = high_large (slice_index text (place - 1)) cut.high in
    absurd (omega arith)

-- letters put in place of letters are letters
pub letters_replaced : (text insert : List ℕ) (from to : ℕ) → AreLetters text → AreLetters insert → AreLetters (replaced from to insert text)
letters_replaced text insert from to letters new =
    let P : ℕ → Type 0 = λ unit. (97 ≤ unit) × (unit ≤ 122) in
    All-append P (take from text ++ insert) (drop to text)
    (All-append P (take from text) insert (All-take P from text letters) new) (All-drop P to text letters)

-- a letter that a word chooses is one
pub letter_is : (choice : ℕ) → AreLetters (letter_of choice ∷ [])
letter_is choice =
    let P : ℕ → Type 0 = λ unit. (97 ≤ unit) × (unit ≤ 122) in
    All-cons P (letter_of choice) [] (omega arith, omega arith) (All-nil P)

pub no_letters : AreLetters []
no_letters = All-nil (λ unit. (97 ≤ unit) × (unit ≤ 122))

-- a letter is a text
pub IsText-letter : (unit : ℕ) → unit < 128 → IsText (unit ∷ [])
unfolding utf16_chars
IsText-letter unit small =
    let low : unit < 0xD800 = omega arith in
    record {
      paired = ap (λ (c : Option ℕ). list_any (λ o. not (is_some o)) (c ∷ [])) (lone_unit_char_low unit low);
      wide = All-cons (λ unit. unit < 2 ^ 16) unit [] (omega arith) (All-nil (λ unit. unit < 2 ^ 16));
    }
