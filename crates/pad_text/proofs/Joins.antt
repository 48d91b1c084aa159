-- Texts that are joined: their UTF-8, and the place where the first ends.
use Rattle.std.proofs.Common.{◌≡◌, ℕ, suc, ◌-◌, ◌<◌, true, false, List, [], ◌∷◌, ◌++◌, length, drop, get_or, sym, ◌∙◌, ap, arith, drop-cons}
use Rattle.std.specs.Prelude.{None, is_some, not}
use Rattle.std.specs.List.{flat_map, list_any}
use Rattle.std.specs.Str.{IsUtf8, chars}
use Rattle.std.specs.Char.Escape.{encode_utf16}
use Rattle.std.specs.Char.Utf16.{is_high_surrogate, is_low_surrogate, has_unpaired_surrogate, utf16_chars, lone_unit_char}
use Rattle.std.proofs.lemmas.Bool.Decides.{nat_tests}
use Rattle.std.proofs.lemmas.List.{drop_all, get_or_append_left}
use Rattle.std.proofs.lemmas.Str.{chars-append, chars-nil, IsUtf8-append, IsUtf8-nil}
use Rattle.std.proofs.lemmas.Grind.{flat_map-append}
use Rattle.pad_text.specs.Text.{IsText, CutsPair, units_of, utf8}
use Rattle.pad_text.specs.Joins.{IsKeptByJoins}
use Rattle.pad_text.proofs.Texts.{IsText-drop, utf8-units_of, units_of-utf8, IsUtf8-utf8}

units_of-append : (bs ds : List ℕ) → IsUtf8 bs → units_of (bs ++ ds) ≡ units_of bs ++ units_of ds
units_of-append bs ds first = ap (flat_map encode_utf16) (chars-append bs ds first) ∙ flat_map-append encode_utf16 (chars bs) (chars ds)

pub utf8-append : (xs ys : List ℕ) → IsText xs → IsText ys → utf8 (xs ++ ys) ≡ utf8 xs ++ utf8 ys
utf8-append xs ys first second =
    let bs = utf8 xs in
    let ds = utf8 ys in
    let is : units_of (bs ++ ds) ≡ xs ++ ys =
    units_of-append bs ds (IsUtf8-utf8 xs first) ∙ (ap (λ us. us ++ units_of ds) (units_of-utf8 xs first) ∙ ap (λ us. xs ++ us) (units_of-utf8 ys second)) in
    ap utf8 (sym is) ∙ utf8-units_of (bs ++ ds) (IsUtf8-append bs ds (IsUtf8-utf8 xs first) (IsUtf8-utf8 ys second))

-- no units have no bytes
pub utf8-nil : utf8 [] ≡ []
utf8-nil = ap utf8 (sym (ap (flat_map encode_utf16) chars-nil)) ∙ utf8-units_of [] IsUtf8-nil

-- no unit is both surrogates
not_both : (u : ℕ) → is_high_surrogate u ≡ true → is_low_surrogate u ≡ true → ⊥
not_both u high low = grind (arith, nat_tests)

high_alone : (u : ℕ) → is_high_surrogate u ≡ true → lone_unit_char u ≡ None
high_alone u high = grind (arith, nat_tests)

-- a high surrogate alone is no text
high-unpaired : (u : ℕ) → is_high_surrogate u ≡ true → has_unpaired_surrogate (u ∷ []) ≡ true
unfolding utf16_chars
high-unpaired u high = ap (λ o. list_any (λ p. not (is_some p)) (o ∷ [])) (high_alone u high)

-- the last unit of a text is no high surrogate
last_not_high : (xs : List ℕ) → IsText xs → 0 < length xs → is_high_surrogate (get_or xs (length xs - 1) 0) ≡ true → ⊥
last_not_high xs text some high =
    let last = length xs - 1 in
    let within : last < length xs = omega arith in
    let whole : CutsPair xs last → ⊥ = λ cut. not_both (get_or xs last 0) high cut.low in
    let alone : drop last xs ≡ get_or xs last 0 ∷ [] =
    drop-cons xs last 0 within ∙ ap (λ ys. get_or xs last 0 ∷ ys) (drop_all (suc last) xs (omega arith)) in
    let left : has_unpaired_surrogate (get_or xs last 0 ∷ []) ≡ false = ap has_unpaired_surrogate (sym alone) ∙ (IsText-drop xs last text whole).paired in
    let right = high-unpaired (get_or xs last 0) high in
    cc

-- so no pair is cut where a text ends and other units begin
pub end-cuts_none : (xs ys : List ℕ) → IsText xs → ¬ (CutsPair (xs ++ ys) (length xs))
end-cuts_none xs ys text cut =
    let some : 0 < length xs = cut.after_start in
    let before : length xs - 1 < length xs = omega arith in
    last_not_high xs text some (ap is_high_surrogate (sym (get_or_append_left xs ys 0 (length xs - 1) before)) ∙ cut.high)

pub kept_by_joins : IsKeptByJoins
kept_by_joins = record { bytes = utf8-append; whole = end-cuts_none }
