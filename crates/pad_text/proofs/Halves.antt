-- Which units stand in a pair, from a place of the units on.
use Rattle.std.proofs.Common.{◌≡◌, ℕ, suc, ◌+◌, ◌<◌, ◌≤◌, ◌⊎◌, inl, inr, true, false, List, [], ◌∷◌, length, drop, get_or, refl, sym, ◌∙◌, ap, arith, drop-cons, add-one}
use Rattle.std.specs.Prelude.{Some, None, is_some, not, slice_index}
use Rattle.std.specs.List.{list_any}
use Rattle.std.specs.Char.Utf16.{is_high_surrogate, is_low_surrogate, has_unpaired_surrogate, utf16_chars, lone_unit_char}
use Rattle.std.proofs.str.Utf16.{IsPair, lone_unit_char_low, lone_unit_char_high, lone_unit_char_surrogate, utf16_chars_lone, utf16_chars_pair}
use Rattle.std.proofs.lemmas.Bool.{cases_lt}
use Rattle.std.proofs.lemmas.Bool.Decides.{nat_tests}
use Rattle.std.proofs.lemmas.List.{drop_all, get_or-drop}

high_is : (u : ℕ) → is_high_surrogate u ≡ true → (0xD800 ≤ u) × (u < 0xDC00)
high_is u high = (grind (arith, nat_tests), grind (arith, nat_tests))

low_is : (u : ℕ) → is_low_surrogate u ≡ true → (0xDC00 ≤ u) × (u < 0xE000)
low_is u low = (grind (arith, nat_tests), grind (arith, nat_tests))

apart : (u : ℕ) → is_high_surrogate u ≡ false → is_low_surrogate u ≡ false → (u < 0xD800) ⊎ (0xE000 ≤ u)
apart u high low = elim (cases_lt u 0xD800) [
  | inl below ↦ inl below
  | inr from ↦ elim (cases_lt u 0xE000) [
    | inl inside ↦ absurd (grind (arith, nat_tests))
    | inr above ↦ inr above
  ]
]

-- the units of a pair leave the rest as it is
pub unpaired-pair : (u v : ℕ) (us : List ℕ) → is_high_surrogate u ≡ true → is_low_surrogate v ≡ true
    → has_unpaired_surrogate (u ∷ v ∷ us) ≡ has_unpaired_surrogate us
unpaired-pair u v us high low =
    let first = high_is u high in
    let second = low_is v low in
    ap (list_any (λ o. not (is_some o))) (utf16_chars_pair u v us (first.0, first.1, second.0, second.1))

-- so does a unit that is no surrogate
pub unpaired-plain : (u : ℕ) (us : List ℕ) → is_high_surrogate u ≡ false → is_low_surrogate u ≡ false
    → has_unpaired_surrogate (u ∷ us) ≡ has_unpaired_surrogate us
unpaired-plain u us high low =
    let none : ¬ (IsPair u (get_or us 0 0)) = λ pair. let from = pair.0 in let below = pair.1 in absurd (grind (arith, nat_tests)) in
    let char : lone_unit_char u ≡ Some u = elim (apart u high low) [
      | inl below ↦ lone_unit_char_low u below
      | inr above ↦ lone_unit_char_high u above
    ] in
    ap (list_any (λ o. not (is_some o))) (utf16_chars_lone u us none ∙ ap (λ o. o ∷ utf16_chars us) char)

-- half a pair is unpaired
half_unpaired : (u : ℕ) (us : List ℕ) → 0xD800 ≤ u → u < 0xE000 → ¬ (IsPair u (get_or us 0 0)) → has_unpaired_surrogate (u ∷ us) ≡ true
half_unpaired u us from below none =
    ap (list_any (λ o. not (is_some o))) (utf16_chars_lone u us none ∙ ap (λ o. o ∷ utf16_chars us) (lone_unit_char_surrogate u from below))

unpaired-low : (u : ℕ) (us : List ℕ) → is_low_surrogate u ≡ true → has_unpaired_surrogate (u ∷ us) ≡ true
unpaired-low u us low =
    let is = low_is u low in
    half_unpaired u us (omega arith) is.1 (λ pair. let below = pair.1 in absurd (omega arith))

unpaired-high : (u : ℕ) (us : List ℕ) → is_high_surrogate u ≡ true → is_low_surrogate (get_or us 0 0) ≡ false → has_unpaired_surrogate (u ∷ us) ≡ true
unpaired-high u us high low =
    let is = high_is u high in
    half_unpaired u us is.0 (omega arith) (λ pair. let from = pair.2 in let below = pair.3 in absurd (grind (arith, nat_tests)))

-- the same at a place of the units
module _ (us : List ℕ) (at : ℕ) (inside : at < length us) where
  begins : drop at us ≡ get_or us at 0 ∷ drop (suc at) us
  begins = drop-cons us at 0 inside

  pub at_low : is_low_surrogate (slice_index us at) ≡ true → has_unpaired_surrogate (drop at us) ≡ true
  at_low low = ap has_unpaired_surrogate begins ∙ unpaired-low (get_or us at 0) (drop (suc at) us) low

  pub at_plain : is_high_surrogate (slice_index us at) ≡ false → is_low_surrogate (slice_index us at) ≡ false
      → has_unpaired_surrogate (drop at us) ≡ has_unpaired_surrogate (drop (at + 1) us)
  at_plain high low =
      let next : suc at ≡ at + 1 = omega arith in
      ap has_unpaired_surrogate begins ∙ (unpaired-plain (get_or us at 0) (drop (suc at) us) high low ∙ ap (λ n. has_unpaired_surrogate (drop n us)) next)

  pub at_end : is_high_surrogate (slice_index us at) ≡ true → at + 1 ≡ length us → has_unpaired_surrogate (drop at us) ≡ true
  at_end high last =
      let rest : drop (suc at) us ≡ [] = drop_all (suc at) us (omega arith) in
      ap has_unpaired_surrogate begins
      ∙ unpaired-high (get_or us at 0) (drop (suc at) us) high (ap (λ xs. is_low_surrogate (get_or xs 0 0)) rest)

  pub at_high : is_high_surrogate (slice_index us at) ≡ true → is_low_surrogate (slice_index us (at + 1)) ≡ false → has_unpaired_surrogate (drop at us) ≡ true
  at_high high low =
      let next : suc at + 0 ≡ at + 1 = omega arith in
      ap has_unpaired_surrogate begins
      ∙ unpaired-high (get_or us at 0) (drop (suc at) us) high (ap is_low_surrogate (get_or-drop (suc at) us 0 0 ∙ ap (λ n. get_or us n 0) next) ∙ low)

  pub at_pair : is_high_surrogate (slice_index us at) ≡ true → at + 1 < length us → is_low_surrogate (slice_index us (at + 1)) ≡ true
      → has_unpaired_surrogate (drop at us) ≡ has_unpaired_surrogate (drop (at + 2) us)
  at_pair high more low =
      let next : suc at ≡ at + 1 = omega arith in
      let within : suc at < length us = omega arith in
      let after : suc (suc at) ≡ at + 2 = omega arith in
      let second : drop (suc at) us ≡ get_or us (suc at) 0 ∷ drop (suc (suc at)) us = drop-cons us (suc at) 0 within in
      let is : is_low_surrogate (get_or us (suc at) 0) ≡ true = ap (λ n. is_low_surrogate (get_or us n 0)) next ∙ low in
      ap has_unpaired_surrogate (begins ∙ ap (λ xs. get_or us at 0 ∷ xs) second)
      ∙ (unpaired-pair (get_or us at 0) (get_or us (suc at) 0) (drop (suc (suc at)) us) high is ∙ ap (λ n. has_unpaired_surrogate (drop n us)) after)
