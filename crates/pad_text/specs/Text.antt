-- A text is a list of UTF-16 units in which surrogates stand only in pairs, a high one and then a low one.
use Rattle.std.specs.Prelude.{◌≡◌, ℕ, ◌-◌, [], ◌++◌, take, drop, ◌≤◌, ◌^◌, ◌<◌, false, List, length, All, IsTrue, slice_index, encode_utf8_all}
use Rattle.std.specs.List.{flat_map}
use Rattle.std.specs.Str.{IsUtf8, chars}
use Rattle.std.specs.Char.Escape.{encode_utf16}
use Rattle.std.specs.Char.Utf16.{has_unpaired_surrogate, utf16_lossy_chars, is_high_surrogate, is_low_surrogate}

-- the units are 16 bits wide, and no surrogate stands alone
pub record IsText (units : List ℕ) : Type 0 where
  pub paired : has_unpaired_surrogate units ≡ false
  pub wide : All (λ unit. unit < 2 ^ 16) units

-- the units that a text in UTF-8 has in UTF-16
abbrev pub units_of : List ℕ → List ℕ
units_of bytes = flat_map encode_utf16 (chars bytes)

-- the bytes of a text in UTF-8
abbrev pub utf8 : List ℕ → List ℕ
utf8 units = encode_utf8_all (utf16_lossy_chars units)

-- the place stands between the two units of a pair
pub record CutsPair (units : List ℕ) (place : ℕ) : Type 0 where
  pub after_start : 0 < place
  pub before_end : place < length units
  pub high : IsTrue (is_high_surrogate (slice_index units (place - 1)))
  pub low : IsTrue (is_low_surrogate (slice_index units place))

-- UTF-8 keeps a text: the units of its bytes are its units, and the other way round
pub record IsKeptByUtf8 : Type 0 where
  pub bytes : (units : List ℕ) → IsText units → IsUtf8 (utf8 units)
  pub units : (units : List ℕ) → IsText units → units_of (utf8 units) ≡ units
  pub text : (bytes : List ℕ) → IsUtf8 bytes → IsText (units_of bytes)
  pub same : (bytes : List ℕ) → IsUtf8 bytes → utf8 (units_of bytes) ≡ bytes

-- texts are joined, and cut where no pair is cut
pub record IsKeptByCuts : Type 0 where
  pub empty : IsText []
  pub joined : (front back : List ℕ) → IsText front → IsText back → IsText (front ++ back)
  pub seam : (front back : List ℕ) → IsText back → ¬ (CutsPair (front ++ back) (length front))
  pub front : (units : List ℕ) (place : ℕ) → IsText units → ¬ (CutsPair units place) → IsText (take place units)
  pub back : (units : List ℕ) (place : ℕ) → IsText units → ¬ (CutsPair units place) → IsText (drop place units)
  pub between : (units : List ℕ) (from to : ℕ) → IsText units → from ≤ to → ¬ (CutsPair units from) → ¬ (CutsPair units to)
      → IsText (take (to - from) (drop from units))
