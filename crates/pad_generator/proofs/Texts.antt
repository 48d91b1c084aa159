-- Letters are texts, and their own UTF-8; the bytes of digests, and so names.
use Rattle.std.proofs.Common.{◌≡◌, ℕ, suc, zero, ◌/◌, ◌^◌, ◌<◌, ◌≤◌, false, List, [], ◌∷◌, ◌++◌, length, get_or, sym, ◌∙◌, ap, refl, arith, inl, inr}
use Rattle.std.specs.Prelude.{All, Option, Some, is_some, not, slice_index, replicate}
use Rattle.std.specs.Int.{w32, to_be_bytes, byte_at, bytes_high_first}
use Rattle.std.specs.List.{list_any, flat_map}
use Rattle.std.specs.Str.{IsAscii}
use Rattle.std.specs.Char.Escape.{encode_utf16}
use Rattle.std.specs.Char.Utf16.{utf16_chars, has_unpaired_surrogate}
use Rattle.std.proofs.str.Utf16.{IsPair, lone_unit_char_low, utf16_chars_lone, one_unit}
use Rattle.std.proofs.Math.Nat.{mod-lt}
use Rattle.std.proofs.lemmas.Bool.{cases_lt}
use Rattle.std.proofs.lemmas.List.{get_or_past}
use Rattle.std.proofs.lemmas.List.Elements.{All-nil, All-cons, All-append, All-head, All-tail, All-weaker, All-replicate}
use Rattle.std.proofs.lemmas.Str.{chars-IsAscii, IsUtf8-from_ascii}
use Rattle.sha2.specs.Sha256.{sha256, digest_bytes}
use Rattle.sha2.proofs.Facts256.{length-sha256}
use Rattle.hex.specs.Hex.{IsBytes}
use Rattle.pad_json.specs.Name.{IsName}
use Rattle.pad_text.specs.Text.{IsText, units_of, utf8}
use Rattle.pad_text.specs.Name.{name_of_bytes}
use Rattle.pad_text.proofs.CallerLemmas.{utf8-units_of}
use Rattle.pad_generator.specs.Inside.Letters.{AreLetters}

abbrev IsLetter : ℕ → Type 0
IsLetter unit = (97 ≤ unit) × (unit ≤ 122)

paired : (text : List ℕ) → AreLetters text → has_unpaired_surrogate text ≡ false
unfolding utf16_chars
paired [] letters = refl
paired (unit ∷ units) letters =
    let first = All-head IsLetter unit units letters in
    let low : unit < 0xD800 = omega (arith, first.1) in
    let apart : ¬ (IsPair unit (get_or units 0 0)) = λ pair. absurd (omega (arith, pair.0, low)) in
    let lone : utf16_chars (unit ∷ units) ≡ Some unit ∷ utf16_chars units =
    utf16_chars_lone unit units apart ∙ ap (λ (c : Option ℕ). c ∷ utf16_chars units) (lone_unit_char_low unit low) in
    ap (λ (cs : List (Option ℕ)). list_any (λ o. not (is_some o)) cs) lone ∙ paired units (All-tail IsLetter unit units letters)

pub letters_text : (text : List ℕ) → AreLetters text → IsText text
letters_text text letters = record { paired = paired text letters; wide = All-weaker IsLetter (λ unit. unit < 2 ^ 16) (λ unit is. omega (arith, is.1)) text letters }

ascii : (text : List ℕ) → AreLetters text → IsAscii text
ascii text letters i = elim (cases_lt i (length text)) [
  | inl below ↦ omega (arith, (letters i 0 below).1)
  | inr past ↦ rw (get_or_past text i 0 past) (omega arith)
]

one_each : (text : List ℕ) → AreLetters text → flat_map encode_utf16 text ≡ text
one_each [] letters = refl
one_each (unit ∷ units) letters =
    let small : unit < 0x1_0000 = omega (arith, (All-head IsLetter unit units letters).1) in
    (λ i. one_unit unit small i ++ one_each units (All-tail IsLetter unit units letters) i)

-- letters are written as themselves
pub utf8-letters : (text : List ℕ) → AreLetters text → utf8 text ≡ text
utf8-letters text letters =
    let is_ascii = ascii text letters in
    let same : units_of text ≡ text = ap (flat_map encode_utf16) (chars-IsAscii text is_ascii) ∙ one_each text letters in
    ap utf8 (sym same) ∙ utf8-units_of text (IsUtf8-from_ascii text is_ascii)

byte_small : (place word : ℕ) → byte_at place word < 256
byte_small zero word = mod-lt word (omega arith)
byte_small (suc place) word = mod-lt (word / 256 ^ suc place) (omega arith)

word_bytes : (count word : ℕ) → All (λ byte. byte < 256) (bytes_high_first count word)
word_bytes zero word = All-nil (λ byte. byte < 256)
word_bytes (suc count) word = All-cons (λ byte. byte < 256) (byte_at count word) (bytes_high_first count word) (byte_small count word) (word_bytes count word)

digest_all : (hash : List ℕ) (count : ℕ) → All (λ byte. byte < 256) (digest_bytes hash count)
unfolding digest_bytes
digest_all hash zero = All-nil (λ byte. byte < 256)
digest_all hash (suc count) =
    All-append (λ byte. byte < 256) (digest_bytes hash count) (to_be_bytes w32 (slice_index hash count)) (digest_all hash count) (word_bytes 4 (slice_index hash count))

bytes_all : (bytes : List ℕ) → All (λ byte. byte < 256) bytes → IsBytes bytes
bytes_all bytes all i = elim (cases_lt i (length bytes)) [
  | inl below ↦ all i 0 below
  | inr past ↦ rw (get_or_past bytes i 0 past) (omega arith)
]

-- a digest is a name
pub IsName-digest : (bytes : List ℕ) → IsName (name_of_bytes bytes)
unfolding sha256
IsName-digest bytes = record { whole = length-sha256 bytes; bytes = bytes_all (sha256 bytes) (digest_all _ 8) }

-- and so is the base's name
pub IsName-zeros : IsName (record { 0 = replicate 32 0 })
IsName-zeros = record { whole = refl; bytes = bytes_all (replicate 32 0) (All-replicate (λ byte. byte < 256) 32 0 (omega arith)) }
