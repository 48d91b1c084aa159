-- Units of a text: a high surrogate is followed by a low one, and a low one stands after a high one.
use Rattle.std.proofs.Common.{◌≡◌, ℕ, zero, suc, ◌+◌, ◌-◌, ◌/◌, ◌%◌, ◌<◌, ◌≤◌, ◌⊎◌, inl, inr, Bool, true, false, cond, ◌&&◌, IsTrue, List, [], ◌∷◌, ◌++◌, length, refl, sym, ◌∙◌, ap, subst, arith}
use Rattle.std.specs.Prelude.{Some, slice_get}
use Rattle.std.specs.List.{flat_map}
use Rattle.std.specs.Str.{all_scalars}
use Rattle.std.specs.Char.Escape.{encode_utf16}
use Rattle.std.specs.Char.Utf16.{is_high_surrogate, is_low_surrogate}
use Rattle.std.proofs.str.Utf16.{one_unit, two_units}
use Rattle.std.proofs.Math.Utf8.{scalar, scalar_cases}
use Rattle.std.proofs.lemmas.Bool.{cases_lt}
use borrow.Author.Tests.{lt-ltb, le-leb, lt-leb, le-ltb}
use Rattle.pad_text.specs.Text.{IsText}
use Rattle.pad_text.proofs.CallerLemmas.{spelled}

-- the units go up in pairs: after a high surrogate a low one is awaited, and none else
abbrev pub GoUp : Bool → List ℕ → Type 0
GoUp false [] = Unit {0}
GoUp true [] = ⊥
GoUp false (unit ∷ units) = (is_low_surrogate unit ≡ false) × GoUp (is_high_surrogate unit) units
GoUp true (unit ∷ units) = (is_low_surrogate unit ≡ true) × (is_high_surrogate unit ≡ false) × GoUp false units

plain_low : (c : ℕ) → (c < 0xD800) ⊎ (0xE000 ≤ c) → is_low_surrogate c ≡ false
plain_low c (inl below) = let smaller : c < 0xDC00 = omega (arith, below) in rw (lt-leb 0xDC00 c smaller) refl
plain_low c (inr from) = let larger : 0xDC00 ≤ c = omega (arith, from) in rw (le-leb 0xDC00 c larger, le-ltb c 0xE000 from) refl

plain_high : (c : ℕ) → (c < 0xD800) ⊎ (0xE000 ≤ c) → is_high_surrogate c ≡ false
plain_high c (inl below) = rw (lt-leb 0xD800 c below) refl
plain_high c (inr from) =
    let larger : 0xD800 ≤ c = omega (arith, from) in
    let past : 0xDC00 ≤ c = omega (arith, from) in
    rw (le-leb 0xD800 c larger, le-ltb c 0xDC00 past) refl

high_is : (u : ℕ) → 0xD800 ≤ u → u < 0xDC00 → (is_high_surrogate u ≡ true) × (is_low_surrogate u ≡ false)
high_is u from below = (rw (le-leb 0xD800 u from, lt-ltb u 0xDC00 below) refl, rw (lt-leb 0xDC00 u below) refl)

low_is : (u : ℕ) → 0xDC00 ≤ u → u < 0xE000 → (is_low_surrogate u ≡ true) × (is_high_surrogate u ≡ false)
low_is u from below =
    let larger : 0xD800 ≤ u = omega (arith, from) in
    (rw (le-leb 0xDC00 u from, lt-ltb u 0xE000 below) refl, rw (le-leb 0xD800 u larger, le-ltb u 0xDC00 from) refl)

one_up : (c : ℕ) (us : List ℕ) → (c < 0xD800) ⊎ (0xE000 ≤ c) → GoUp false us → GoUp false (c ∷ us)
one_up c us plain rest = (plain_low c plain, subst (λ t. GoUp t us) (sym (plain_high c plain)) rest)

two_up : (high low : ℕ) (us : List ℕ) → (is_high_surrogate high ≡ true) × (is_low_surrogate high ≡ false) → (is_low_surrogate low ≡ true) × (is_high_surrogate low ≡ false) → GoUp false us
    → GoUp false (high ∷ low ∷ us)
two_up high low us is_high is_low rest = (is_high.1, subst (λ t. GoUp t (low ∷ us)) (sym is_high.0) (is_low.0, is_low.1, rest))

character_up : (c : ℕ) (us : List ℕ) → scalar c ≡ true → GoUp false us → GoUp false (encode_utf16 c ++ us)
character_up c us is rest = elim (cases_lt c 0x1_0000) [
  | inl small ↦
      let plain : (c < 0xD800) ⊎ (0xE000 ≤ c) = elim (scalar_cases c is) [ inl low ↦ inl low | inr high ↦ inr high.0 ] in
      subst (λ xs. GoUp false (xs ++ us)) (sym (one_unit c small)) (one_up c us plain rest)
  | inr large ↦ elim (scalar_cases c is) [
    | inl low ↦ absurd (omega (arith, low))
    | inr high ↦
        let below : c < 0x11_0000 = high.1 in
        subst (λ xs. GoUp false (xs ++ us)) (sym (two_units c large))
        (two_up (0xD800 + (c - 0x1_0000) / 0x400) (0xDC00 + (c - 0x1_0000) % 0x400) us
        (high_is (0xD800 + (c - 0x1_0000) / 0x400) (omega arith) (omega (arith, below))) (low_is (0xDC00 + (c - 0x1_0000) % 0x400) (omega arith) (omega arith)) rest)
  ]
]

both : (a b : Bool) → (a && b) ≡ true → (a ≡ true) × (b ≡ true)
both true b is = (refl, is)
both false b is = cc

characters_up : (cs : List ℕ) → all_scalars cs ≡ true → GoUp false (flat_map encode_utf16 cs)
characters_up [] is = tt
characters_up (c ∷ cs) is =
    let parts = both (scalar c) (all_scalars cs) is in
    character_up c (flat_map encode_utf16 cs) parts.0 (characters_up cs parts.1)

pub go_up : (units : List ℕ) → IsText units → GoUp false units
go_up units text =
    let s = spelled units text in
    subst (GoUp false) s.is (characters_up s.spelling s.scalars)

-- after a high surrogate a low one stands
pub low_after : (units : List ℕ) (state : Bool) (place high : ℕ) → GoUp state units → slice_get units place ≡ Some high → is_high_surrogate high ≡ true
    → (low : ℕ) × (slice_get units (suc place) ≡ Some low) × (is_low_surrogate low ≡ true)
low_after [] state place high up is told = cc
low_after (unit ∷ units) false zero high up is told =
    let same : unit ≡ high = cc in
    first_low units (subst (λ t. GoUp t units) (ap is_high_surrogate same ∙ told) up.1)
  where
    first_low : (units : List ℕ) → GoUp true units → (low : ℕ) × (slice_get units 0 ≡ Some low) × (is_low_surrogate low ≡ true)
    first_low [] up = absurd up
    first_low (low ∷ units) up = (low, refl, up.0)
low_after (unit ∷ units) true zero high up is told =
    let same : unit ≡ high = cc in
    let never : is_high_surrogate high ≡ false = ap is_high_surrogate (sym same) ∙ up.1 in
    cc
low_after (unit ∷ units) false (suc place) high up is told = low_after units (is_high_surrogate unit) place high up.1 is told
low_after (unit ∷ units) true (suc place) high up is told = low_after units false place high up.2 is told

-- a high surrogate just before a place
abbrev pub StandsBefore : List ℕ → ℕ → Type 0
StandsBefore units place = (before high : ℕ) × (suc before ≡ place) × (slice_get units before ≡ Some high) × (is_high_surrogate high ≡ true)

before_by : (unit : ℕ) (units : List ℕ) (place low : ℕ) → slice_get units place ≡ Some low → (test : Bool) → is_high_surrogate unit ≡ test
    → ((p : ℕ) → slice_get units p ≡ Some low → (is_high_surrogate unit ≡ false) ⊎ (1 ≤ p) → StandsBefore units p) → StandsBefore (unit ∷ units) (suc place)
before_by unit units zero low is true high rest = (0, unit, refl, refl, high)
before_by unit units zero low is false high rest = let found = rest 0 is (inl high) in absurd (omega (arith, found.2))
before_by unit units (suc place) low is test high rest =
    let found = rest (suc place) is (inr (omega arith)) in
    (suc found.0, found.1, ap suc found.2, found.3, found.4)

-- before a low surrogate a high one stands
pub high_before : (units : List ℕ) (state : Bool) (place low : ℕ) → GoUp state units → slice_get units place ≡ Some low → is_low_surrogate low ≡ true → (state ≡ false) ⊎ (1 ≤ place)
    → StandsBefore units place
high_before [] state place low up is told behind = cc
high_before (unit ∷ units) false zero low up is told behind =
    let same : unit ≡ low = cc in
    let never : is_low_surrogate low ≡ false = ap is_low_surrogate (sym same) ∙ up.0 in
    cc
high_before (unit ∷ units) true zero low up is told (inl never) = cc
high_before (unit ∷ units) true zero low up is told (inr some) = absurd (omega (arith, some))
high_before (unit ∷ units) false (suc place) low up is told behind =
    before_by unit units place low is (is_high_surrogate unit) refl (λ p is_p behind_p. high_before units (is_high_surrogate unit) p low up.1 is_p told behind_p)
high_before (unit ∷ units) true (suc place) low up is told behind =
    let found = high_before units false place low up.2 is told (inl refl) in
    (suc found.0, found.1, ap suc found.2, found.3, found.4)
