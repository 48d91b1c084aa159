-- A text is the units of its characters: it is kept by UTF-8, and by a cut between characters.
use Rattle.std.proofs.Common.{◌≡◌, ℕ, zero, suc, ◌+◌, ◌-◌, ◌*◌, ◌/◌, ◌%◌, ◌^◌, ◌<◌, ◌≤◌, ◌⊎◌, inl, inr, Bool, true, false, cond, not, ◌&&◌, IsTrue, List, [], ◌∷◌, ◌++◌, map, length, take, drop, refl, sym, ◌∙◌, ap, subst, arith}
use Rattle.std.specs.Prelude.{Option, Some, None, All, slice_index, is_some, nat_le, nat_lt}
use Rattle.std.specs.Option.{unwrap_or}
use Rattle.std.specs.List.{flat_map, list_any}
use Rattle.std.specs.Str.{IsUtf8, chars, all_scalars, encode_utf8_all}
use Rattle.std.specs.Char.Escape.{encode_utf16}
use Rattle.std.specs.Char.Utf16.{utf16_chars, utf16_lossy_chars, has_unpaired_surrogate, is_high_surrogate, is_low_surrogate, surrogate_pair_char, lone_unit_char}
use Rattle.std.proofs.str.Utf16.{IsPair, one_unit, two_units, pair_units, lone_unit_char_low, lone_unit_char_high, utf16_chars_lone, utf16_chars_pair, utf16_chars-nil}
use Rattle.std.proofs.lemmas.Bool.{cases_lt}
use borrow.Author.Tests.{lt-ltb, le-ltb, le-leb, lt-leb, ltb-true, leb-true}
use Rattle.std.proofs.lemmas.Str.{chars-encodes, encodes-chars, scalars-chars}
use Rattle.std.proofs.lemmas.List.{length-append, length-drop, get_or-append-add, take_at, drop_at, take_all, drop_all, get_or-drop}
use Rattle.std.proofs.lemmas.List.Elements.{All-nil, All-cons, All-append, All-head, All-tail}
use Rattle.std.proofs.lemmas.Grind.{flat_map-append}
use Rattle.std.proofs.Math.Utf8.{scalar, scalar_cases, low_scalar}
use Rattle.pad_text.specs.Text.{IsText, CutsPair, IsKeptByUtf8, IsKeptByCuts, units_of, utf8}

-- the first unit of a character behind U+FFFF, and the second
abbrev high_of : ℕ → ℕ
high_of c = 0xD800 + (c - 0x1_0000) / 0x400

abbrev low_of : ℕ → ℕ
low_of c = 0xDC00 + (c - 0x1_0000) % 0x400

pair_of : (c : ℕ) → 0x1_0000 ≤ c → c < 0x11_0000 → IsPair (high_of c) (low_of c)
pair_of c from below = (omega arith, omega arith, omega arith, omega arith)

pair_char : (c : ℕ) → 0x1_0000 ≤ c → surrogate_pair_char (high_of c) (low_of c) ≡ c
pair_char c from = omega arith

-- how a character is written: one unit that is no surrogate, or a pair
data Writing (c : ℕ) : Type 0 where
  one : (c < 0xD800) ⊎ (0xE000 ≤ c) → c < 0x1_0000 → encode_utf16 c ≡ c ∷ [] → Writing c
  two : 0x1_0000 ≤ c → c < 0x11_0000 → encode_utf16 c ≡ high_of c ∷ low_of c ∷ [] → Writing c

writing : (c : ℕ) → scalar c ≡ true → Writing c
writing c is = elim (scalar_cases c is) [
  | inl low ↦ let small : c < 0x1_0000 = omega arith in one (inl low) small (one_unit c small)
  | inr high ↦ elim (cases_lt c 0x1_0000) [
    | inl small ↦ one (inr high.0) small (one_unit c small)
    | inr large ↦ two large high.1 (two_units c large)
  ]
]

lone_char : (c : ℕ) → (c < 0xD800) ⊎ (0xE000 ≤ c) → lone_unit_char c ≡ Some c
lone_char c (inl low) = lone_unit_char_low c low
lone_char c (inr high) = lone_unit_char_high c high

not_high : (c next : ℕ) → (c < 0xD800) ⊎ (0xE000 ≤ c) → ¬ (IsPair c next)
not_high c next (inl low) pair = absurd (omega (arith, pair.0))
not_high c next (inr high) pair = absurd (omega (arith, pair.1))

-- the units of a character read as that character
chars-encode : (c : ℕ) (us : List ℕ) → scalar c ≡ true → utf16_chars (encode_utf16 c ++ us) ≡ Some c ∷ utf16_chars us
chars-encode c us is = elim (writing c is) [
  | one apart small written ↦ rw written (utf16_chars_lone c us (not_high c _ apart) ∙ ap (λ x. x ∷ utf16_chars us) (lone_char c apart))
  | two large below written ↦ rw written (utf16_chars_pair (high_of c) (low_of c) us (pair_of c large below) ∙ ap (λ x. Some x ∷ utf16_chars us) (pair_char c large))
]

abbrev IsUnit : ℕ → Type 0
IsUnit unit = unit < 2 ^ 16

wide-encode : (c : ℕ) → scalar c ≡ true → All IsUnit (encode_utf16 c)
wide-encode c is = elim (writing c is) [
  | one apart small written ↦ rw written (All-cons IsUnit c [] small (All-nil IsUnit))
  | two large below written ↦ rw written (All-cons IsUnit (high_of c) (low_of c ∷ []) (omega arith) (All-cons IsUnit (low_of c) [] (omega arith) (All-nil IsUnit)))
]

both : (a b : Bool) → (a && b) ≡ true → (a ≡ true) × (b ≡ true)
both true b is = (refl, is)
both false b is = cc

units-chars : (cs : List ℕ) → all_scalars cs ≡ true → utf16_chars (flat_map encode_utf16 cs) ≡ map Some cs
units-chars [] is = utf16_chars-nil
units-chars (c ∷ cs) is =
    let parts = both (scalar c) (all_scalars cs) is in
    chars-encode c (flat_map encode_utf16 cs) parts.0 ∙ ap (λ x. Some c ∷ x) (units-chars cs parts.1)

none_lone : (cs : List ℕ) → list_any (λ o. not (is_some o)) (map Some cs) ≡ false
none_lone [] = refl
none_lone (c ∷ cs) = none_lone cs

told : (cs : List ℕ) → map (λ o. unwrap_or o 0xFFFD) (map Some cs) ≡ cs
told [] = refl
told (c ∷ cs) = ap (λ x. c ∷ x) (told cs)

wide-units : (cs : List ℕ) → all_scalars cs ≡ true → All IsUnit (flat_map encode_utf16 cs)
wide-units [] is = All-nil IsUnit
wide-units (c ∷ cs) is =
    let parts = both (scalar c) (all_scalars cs) is in
    All-append IsUnit (encode_utf16 c) (flat_map encode_utf16 cs) (wide-encode c parts.0) (wide-units cs parts.1)

-- the units of characters are a text, which spells those characters
pub IsText-chars : (cs : List ℕ) → all_scalars cs ≡ true → IsText (flat_map encode_utf16 cs)
IsText-chars cs is = record {
  paired = ap (list_any (λ o. not (is_some o))) (units-chars cs is) ∙ none_lone cs;
  wide = wide-units cs is;
}

lossy-units : (cs : List ℕ) → all_scalars cs ≡ true → utf16_lossy_chars (flat_map encode_utf16 cs) ≡ cs
lossy-units cs is = ap (map (λ o. unwrap_or o 0xFFFD)) (units-chars cs is) ∙ told cs

-- the units are those of some characters
pub record IsSpelled (units : List ℕ) : Type 0 where
  pub spelling : List ℕ
  pub scalars : all_scalars spelling ≡ true
  pub is : flat_map encode_utf16 spelling ≡ units

abbrev HasNoLone : List ℕ → Type 0
HasNoLone units = has_unpaired_surrogate units ≡ false

high_scalar : (c : ℕ) → 0xE000 ≤ c → c < 0x11_0000 → scalar c ≡ true
high_scalar c from below = rw (le-ltb c 0xD800 (omega arith), le-leb 0xE000 c from, lt-ltb c 0x11_0000 below)

scalar_apart : (u : ℕ) → (nat_le 0xD800 u && nat_lt u 0xE000) ≡ false → u < 2 ^ 16 → scalar u ≡ true
scalar_apart u at small = elim (cases_lt u 0xD800) [
  | inl low ↦ low_scalar u low
  | inr from ↦ elim (cases_lt u 0xE000) [
    | inl below ↦ let is : (nat_le 0xD800 u && nat_lt u 0xE000) ≡ true = rw (le-leb 0xD800 u from, lt-ltb u 0xE000 below) in cc
    | inr high ↦ high_scalar u high (omega arith)
  ]
]

-- a unit that stands alone and is no lone surrogate is a character
alone : (u : ℕ) (t : Bool) → (nat_le 0xD800 u && nat_lt u 0xE000) ≡ t → (rest : List (Option ℕ)) → u < 2 ^ 16
    → list_any (λ o. not (is_some o)) (cond t None (Some u) ∷ rest) ≡ false
    → (scalar u ≡ true) × (encode_utf16 u ≡ u ∷ []) × (list_any (λ o. not (is_some o)) rest ≡ false)
alone u true at rest small none = cc
alone u false at rest small none = (scalar_apart u at small, one_unit u small, none)

spelled_one : (u : ℕ) (us : List ℕ) → IsSpelled us → scalar u ≡ true → encode_utf16 u ≡ u ∷ [] → IsSpelled (u ∷ us)
spelled_one u us rest is written = record {
  spelling = u ∷ rest.spelling;
  scalars = rw is rest.scalars;
  is = rw (written, rest.is);
}

spelled_two : (u v : ℕ) (us : List ℕ) → IsSpelled us → is_high_surrogate u ≡ true → is_low_surrogate v ≡ true → IsSpelled (u ∷ v ∷ us)
spelled_two u v us rest high low =
    let first = both _ _ high in
    let second = both _ _ low in
    let h0 : 0xD800 ≤ u = leb-true _ _ first.0 in
    let h1 : u < 0xDC00 = ltb-true _ _ first.1 in
    let l0 : 0xDC00 ≤ v = leb-true _ _ second.0 in
    let l1 : v < 0xE000 = ltb-true _ _ second.1 in
    let is : scalar (surrogate_pair_char u v) ≡ true = high_scalar (surrogate_pair_char u v) (omega arith) (omega arith) in
    let same : surrogate_pair_char u v ≡ 0x1_0000 + ((u - 0xD800) * 0x400 + (v - 0xDC00)) = omega arith in
    let written : encode_utf16 (surrogate_pair_char u v) ≡ u ∷ v ∷ [] = ap encode_utf16 same ∙ pair_units u v h0 l0 l1 in
    record {
      spelling = surrogate_pair_char u v ∷ rest.spelling;
      scalars = rw is rest.scalars;
      is = rw (written, rest.is);
    }

step : (u v : ℕ) (us : List ℕ) (t : Bool) → (is_high_surrogate u && is_low_surrogate v) ≡ t → All IsUnit (u ∷ v ∷ us)
    → list_any (λ o. not (is_some o)) (cond t (Some (surrogate_pair_char u v) ∷ utf16_chars us) (lone_unit_char u ∷ utf16_chars (v ∷ us))) ≡ false
    → (HasNoLone us → All IsUnit us → IsSpelled us)
    → (HasNoLone (v ∷ us) → All IsUnit (v ∷ us) → IsSpelled (v ∷ us))
    → IsSpelled (u ∷ v ∷ us)
step u v us true pair wide none after next =
    let parts = both _ _ pair in
    spelled_two u v us (after none (All-tail IsUnit v us (All-tail IsUnit u (v ∷ us) wide))) parts.0 parts.1
step u v us false pair wide none after next =
    let parts = alone u _ refl (utf16_chars (v ∷ us)) (All-head IsUnit u (v ∷ us) wide) none in
    spelled_one u (v ∷ us) (next parts.2 (All-tail IsUnit u (v ∷ us) wide)) parts.0 parts.1

spelled_from : (us : List ℕ) → HasNoLone us → All IsUnit us → IsSpelled us
unfolding utf16_chars
spelled_from [] none wide = record { spelling = []; scalars = refl; is = refl }
spelled_from (u ∷ []) none wide =
    let parts = alone u _ refl [] (All-head IsUnit u [] wide) none in
    spelled_one u [] (record { spelling = []; scalars = refl; is = refl }) parts.0 parts.1
spelled_from (u ∷ v ∷ us) none wide = step u v us _ refl wide none (spelled_from us) (spelled_from (v ∷ us))

-- a text is the units of its characters
pub spelled : (us : List ℕ) → IsText us → IsSpelled us
spelled us text = spelled_from us text.paired text.wide

-- UTF-8 keeps a text
pub utf8-units_of : (bytes : List ℕ) → IsUtf8 bytes → utf8 (units_of bytes) ≡ bytes
utf8-units_of bytes is = ap encode_utf8_all (lossy-units (chars bytes) (scalars-chars bytes is)) ∙ encodes-chars bytes is

lossy-spelled : (us : List ℕ) (s : IsSpelled us) → utf16_lossy_chars us ≡ s.spelling
lossy-spelled us s = ap utf16_lossy_chars (sym s.is) ∙ lossy-units s.spelling s.scalars

pub units_of-utf8 : (us : List ℕ) → IsText us → units_of (utf8 us) ≡ us
units_of-utf8 us text =
    let s = spelled us text in
    rw (lossy-spelled us s, chars-encodes s.spelling s.scalars) s.is

pub IsUtf8-utf8 : (us : List ℕ) → IsText us → IsUtf8 (utf8 us)
IsUtf8-utf8 us text =
    let s = spelled us text in
    (s.spelling, (s.scalars, ap encode_utf8_all (sym (lossy-spelled us s))))

pub IsText-units_of : (bytes : List ℕ) → IsUtf8 bytes → IsText (units_of bytes)
IsText-units_of bytes is = IsText-chars (chars bytes) (scalars-chars bytes is)

pub IsText-nil : IsText []
IsText-nil = IsText-chars [] refl

all_scalars-append : (xs ys : List ℕ) → all_scalars xs ≡ true → all_scalars ys ≡ true → all_scalars (xs ++ ys) ≡ true
all_scalars-append [] ys first second = second
all_scalars-append (x ∷ xs) ys first second =
    let parts = both (scalar x) (all_scalars xs) first in
    rw parts.0 (all_scalars-append xs ys parts.1 second)

pub IsText-append : (xs ys : List ℕ) → IsText xs → IsText ys → IsText (xs ++ ys)
IsText-append xs ys first second =
    let s = spelled xs first in
    let t = spelled ys second in
    let whole : flat_map encode_utf16 (s.spelling ++ t.spelling) ≡ xs ++ ys = rw (flat_map-append, s.is, t.is) in
    subst IsText whole (IsText-chars (s.spelling ++ t.spelling) (all_scalars-append s.spelling t.spelling s.scalars t.scalars))

-- a pair stands in a text behind other units as it stands in the text alone
CutsPair-behind : (xs ys : List ℕ) (place : ℕ) → CutsPair ys place → CutsPair (xs ++ ys) (length xs + place)
CutsPair-behind xs ys place cut =
    let after : 0 < place = cut.after_start in
    let before : length xs + place - 1 ≡ length xs + (place - 1) = omega arith in
    record {
      after_start = omega arith;
      before_end = rw length-append (omega (arith, cut.before_end));
      high = rw (before, get_or-append-add xs ys (place - 1) 0) cut.high;
      low = rw (get_or-append-add xs ys place 0) cut.low;
    }

-- characters before a place, and characters behind it
record Split (cs : List ℕ) (place : ℕ) : Type 0 where
  front : List ℕ
  back : List ℕ
  front_scalars : all_scalars front ≡ true
  back_scalars : all_scalars back ≡ true
  is : front ++ back ≡ cs
  at : length (flat_map encode_utf16 front) ≡ place

later : (c : ℕ) (cs : List ℕ) (place : ℕ) → scalar c ≡ true → length (encode_utf16 c) ≤ place → Split cs (place - length (encode_utf16 c)) → Split (c ∷ cs) place
later c cs place is within rest = record {
  front = c ∷ rest.front;
  back = rest.back;
  front_scalars = rw is rest.front_scalars;
  back_scalars = rest.back_scalars;
  is = ap (λ x. c ∷ x) rest.is;
  at = length-append (encode_utf16 c) (flat_map encode_utf16 rest.front) ∙ omega (arith, rest.at);
}

is_high : (c : ℕ) → 0x1_0000 ≤ c → c < 0x11_0000 → IsTrue (is_high_surrogate (high_of c))
is_high c from below = rw (le-leb 0xD800 (high_of c) (omega arith), lt-ltb (high_of c) 0xDC00 (omega arith))

is_low : (c : ℕ) → 0x1_0000 ≤ c → IsTrue (is_low_surrogate (low_of c))
is_low c from = rw (le-leb 0xDC00 (low_of c) (omega arith), lt-ltb (low_of c) 0xE000 (omega arith))

-- a place inside the units of a character is between a high and a low one
inside : (c : ℕ) (rest : List ℕ) (place : ℕ) → scalar c ≡ true → 0 < place → place < length (encode_utf16 c) → CutsPair (encode_utf16 c ++ rest) place
inside c rest place is after before = elim (writing c is) [
  | one apart small written ↦ let short : length (encode_utf16 c) ≡ 1 = ap length written in absurd (omega arith)
  | two large below written ↦
      let short : length (encode_utf16 c) ≡ 2 = ap length written in
      let first : place ≡ 1 = omega arith in
      rw (first, written) (record {
        after_start = omega arith;
        before_end = omega arith;
        high = is_high c large below;
        low = is_low c large;
      })
]

split : (cs : List ℕ) (place : ℕ) → all_scalars cs ≡ true → place ≤ length (flat_map encode_utf16 cs)
    → ¬ (CutsPair (flat_map encode_utf16 cs) place) → Split cs place
split [] place is within apart = record { front = []; back = []; front_scalars = refl; back_scalars = refl; is = refl; at = omega arith }
split (c ∷ cs) zero is within apart = record { front = []; back = c ∷ cs; front_scalars = refl; back_scalars = is; is = refl; at = refl }
split (c ∷ cs) (suc before) is within apart =
    let parts = both (scalar c) (all_scalars cs) is in
    let size : length (flat_map encode_utf16 (c ∷ cs)) ≡ length (encode_utf16 c) + length (flat_map encode_utf16 cs) = length-append (encode_utf16 c) (flat_map encode_utf16 cs) in
    elim (cases_lt (suc before) (length (encode_utf16 c))) [
      | inl less ↦ absurd (apart (inside c (flat_map encode_utf16 cs) (suc before) parts.0 (omega arith) less))
      | inr most ↦ later c cs (suc before) parts.0 most (split cs (suc before - length (encode_utf16 c)) parts.1 (omega arith)
          (λ cut. apart (let same : length (encode_utf16 c) + (suc before - length (encode_utf16 c)) ≡ suc before = omega arith in
          subst (CutsPair (flat_map encode_utf16 (c ∷ cs))) same (CutsPair-behind (encode_utf16 c) (flat_map encode_utf16 cs) _ cut))))
    ]

split_text : (us : List ℕ) (place : ℕ) (text : IsText us) → place ≤ length us → ¬ (CutsPair us place) → Split (spelled us text).spelling place
split_text us place text within apart =
    let s = spelled us text in
    split s.spelling place s.scalars (rw s.is within) (rw s.is apart)

pub IsText-take : (us : List ℕ) (place : ℕ) → IsText us → ¬ (CutsPair us place) → IsText (take place us)
IsText-take us place text apart = elim (cases_lt (length us) place) [
  | inl less ↦ rw (take_all place us (omega arith)) text
  | inr most ↦
      let s = split_text us place text most apart in
      let whole : flat_map encode_utf16 s.front ++ flat_map encode_utf16 s.back ≡ us = sym (flat_map-append encode_utf16 s.front s.back) ∙ (ap (flat_map encode_utf16) s.is ∙ (spelled us text).is) in
      subst IsText (sym (take_at (flat_map encode_utf16 s.front) (flat_map encode_utf16 s.back) place s.at) ∙ ap (take place) whole) (IsText-chars s.front s.front_scalars)
]

pub IsText-drop : (us : List ℕ) (place : ℕ) → IsText us → ¬ (CutsPair us place) → IsText (drop place us)
IsText-drop us place text apart = elim (cases_lt (length us) place) [
  | inl less ↦ rw (drop_all place us (omega arith)) IsText-nil
  | inr most ↦
      let s = split_text us place text most apart in
      let whole : flat_map encode_utf16 s.front ++ flat_map encode_utf16 s.back ≡ us = sym (flat_map-append encode_utf16 s.front s.back) ∙ (ap (flat_map encode_utf16) s.is ∙ (spelled us text).is) in
      subst IsText (sym (drop_at (flat_map encode_utf16 s.front) (flat_map encode_utf16 s.back) place s.at) ∙ ap (drop place) whole) (IsText-chars s.back s.back_scalars)
]

-- a pair of the units from a place on is a pair of the whole
pub CutsPair-drop : (us : List ℕ) (from place : ℕ) → CutsPair (drop from us) place → CutsPair us (from + place)
CutsPair-drop us from place cut =
    let after : 0 < place = cut.after_start in
    let before : from + place - 1 ≡ from + (place - 1) = omega arith in
    record {
      after_start = omega arith;
      before_end = omega (arith, length-drop from us, cut.before_end);
      high = rw (before, ← get_or-drop from us (place - 1) 0) cut.high;
      low = rw (← get_or-drop from us place 0) cut.low;
    }

pub IsText-between : (us : List ℕ) (from to : ℕ) → IsText us → from ≤ to → ¬ (CutsPair us from) → ¬ (CutsPair us to) → IsText (take (to - from) (drop from us))
IsText-between us from to text order start end =
    let same : from + (to - from) ≡ to = omega arith in
    IsText-take (drop from us) (to - from) (IsText-drop us from text start) (λ cut. end (subst (CutsPair us) same (CutsPair-drop us from (to - from) cut)))

not_low : (u : ℕ) → (u < 0xDC00) ⊎ (0xE000 ≤ u) → is_low_surrogate u ≡ false
not_low u (inl below) = rw (lt-leb 0xDC00 u below)
not_low u (inr from) = rw (le-leb 0xDC00 u (omega arith), le-ltb u 0xE000 from)

starts : (c : ℕ) (rest : List ℕ) → scalar c ≡ true → is_low_surrogate (slice_index (encode_utf16 c ++ rest) 0) ≡ false
starts c rest is = elim (writing c is) [
  | one (inl low) small written ↦ rw written (not_low c (inl (omega arith)))
  | one (inr high) small written ↦ rw written (not_low c (inr high))
  | two large below written ↦ rw written (not_low (high_of c) (inl (omega arith)))
]

starts_spelled : (cs : List ℕ) → all_scalars cs ≡ true → is_low_surrogate (slice_index (flat_map encode_utf16 cs) 0) ≡ false
starts_spelled [] is = refl
starts_spelled (c ∷ cs) is = starts c (flat_map encode_utf16 cs) (both (scalar c) (all_scalars cs) is).0

-- no text begins with the second unit of a pair
pub first_not_low : (us : List ℕ) → IsText us → is_low_surrogate (slice_index us 0) ≡ false
first_not_low us text = let s = spelled us text in rw (← s.is) (starts_spelled s.spelling s.scalars)

-- so no pair is cut where a text begins
pub drop-cuts_none : (us : List ℕ) (place : ℕ) → IsText (drop place us) → ¬ (CutsPair us place)
drop-cuts_none us place rest cut =
    let first : slice_index (drop place us) 0 ≡ slice_index us place = get_or-drop place us 0 0 ∙ ap (slice_index us) (omega arith) in
    let low : is_low_surrogate (slice_index us place) ≡ false = ap is_low_surrogate (sym first) ∙ first_not_low (drop place us) rest in
    let high : is_low_surrogate (slice_index us place) ≡ true = cut.low in
    cc

pub seam-cuts_none : (xs ys : List ℕ) → IsText ys → ¬ (CutsPair (xs ++ ys) (length xs))
seam-cuts_none xs ys text = drop-cuts_none (xs ++ ys) (length xs) (rw (drop_at xs ys (length xs) refl) text)

pub kept_by_utf8 : IsKeptByUtf8
kept_by_utf8 = record { bytes = IsUtf8-utf8; units = units_of-utf8; text = IsText-units_of; same = utf8-units_of }

pub kept_by_cuts : IsKeptByCuts
kept_by_cuts = record {
  empty = IsText-nil;
  joined = IsText-append;
  seam = seam-cuts_none;
  front = IsText-take;
  back = IsText-drop;
  between = IsText-between;
}
