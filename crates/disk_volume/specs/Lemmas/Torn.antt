-- The bytes of a file whose written ranges are torn.
use Rattle.std.proofs.Common.{◌≡◌, ◌∙◌, ◌+◌, ◌-◌, ◌<◌, ◌≤◌, ℕ, Bool, true, false, ◌&&◌, ◌||◌, List, [], ◌∷◌, ◌++◌, length, get_or, take, drop, replicate, min, refl, sym, inl, inr, ⊎_elim, ◌⊎◌, arith, nat_le, nat_lt, if◌then◌else◌}
use Rattle.std.proofs.lemmas.Bool.{cases_lt}
use Rattle.std.proofs.lemmas.Bool.Decides.{nat_tests}
use Rattle.std.proofs.lemmas.Grind.{common_steps}
use Rattle.std.proofs.lemmas.List.{ext_get_or}
use Rattle.std.proofs.lemmas.List.FromFn.{length-map-range_with_len, get_or-map-range_with_len, fill_by_all}
use Rattle.disk_volume.specs.Disk.{Outside}
use Rattle.disk_volume.specs.Pick.{is_within, torn}

pub length-torn : (ranges : List (ℕ × ℕ)) (byte : ℕ) (bytes : List ℕ) → length (torn ranges byte bytes) ≡ length bytes
length-torn ranges byte bytes = length-map-range_with_len (λ place. if is_within ranges place then byte else get_or bytes place 0) 0 (length bytes)

pub get_or-torn : (ranges : List (ℕ × ℕ)) (byte : ℕ) (bytes : List ℕ) (place : ℕ) → place < length bytes → get_or (torn ranges byte bytes) place 0 ≡ (if is_within ranges place then byte else get_or bytes place 0)
get_or-torn ranges byte bytes place within = get_or-map-range_with_len (λ place. if is_within ranges place then byte else get_or bytes place 0) 0 (length bytes) place place 0 within (omega arith)

-- a place outside the ranges is in none of them
pub outside : (ranges : List (ℕ × ℕ)) (place : ℕ) → Outside ranges place → is_within ranges place ≡ false
outside [] place out = refl
outside (range ∷ ranges) place out = rw (outside ranges place out.1) (⊎_elim (λ low. grind (arith, nat_tests)) (λ high. grind (arith, nat_tests)) out.0)

or_false : (p q : Bool) → (p || q) ≡ false → (p ≡ false) × (q ≡ false)
or_false true q e = cc
or_false false q e = (refl, e)

beside : (range : ℕ × ℕ) (place : ℕ) → (nat_le range.0 place && nat_lt place range.1) ≡ false → (place < range.0) ⊎ (range.1 ≤ place)
beside range place e = ⊎_elim (λ (low : place < range.0). inl low)
    (λ (low : range.0 ≤ place). ⊎_elim (λ (high : place < range.1). absurd (grind (arith, nat_tests))) (λ (high : range.1 ≤ place). inr high) (cases_lt place range.1))
    (cases_lt place range.0)

-- and a place that is in none of them is outside
pub not_within : (ranges : List (ℕ × ℕ)) (place : ℕ) → is_within ranges place ≡ false → Outside ranges place
not_within [] place out = tt
not_within (range ∷ ranges) place out =
    let parts = or_false (nat_le range.0 place && nat_lt place range.1) (is_within ranges place) out in
    (beside range place parts.0, not_within ranges place parts.1)

-- each place outside the ranges keeps its byte
pub torn-outside : (ranges : List (ℕ × ℕ)) (byte : ℕ) (bytes : List ℕ) (place : ℕ) → place < length bytes → Outside ranges place → get_or (torn ranges byte bytes) place 0 ≡ get_or bytes place 0
torn-outside ranges byte bytes place within out = get_or-torn ranges byte bytes place within ∙ (rw (outside ranges place out) refl)

-- no range
pub torn_none : (byte : ℕ) (bytes : List ℕ) → bytes ≡ torn [] byte bytes
torn_none byte bytes = fill_by_all (λ place. get_or bytes place 0) bytes (length bytes) 0 refl (λ place within. refl)

either : (here there : Bool) (byte old : ℕ) → (if here || false then byte else if there then byte else old) ≡ (if here || there then byte else old)
either true there byte old = refl
either false there byte old = refl

-- one range more
pub torn_more : (range : ℕ × ℕ) (ranges : List (ℕ × ℕ)) (byte : ℕ) (bytes : List ℕ) → torn (range ∷ []) byte (torn ranges byte bytes) ≡ torn (range ∷ ranges) byte bytes
torn_more range ranges byte bytes =
    ext_get_or 0 (torn (range ∷ []) byte (torn ranges byte bytes)) (torn (range ∷ ranges) byte bytes)
    (length-torn (range ∷ []) byte (torn ranges byte bytes) ∙ length-torn ranges byte bytes ∙ sym (length-torn (range ∷ ranges) byte bytes))
    (λ place within.
    let inner : place < length (torn ranges byte bytes) = omega (arith, length-torn (range ∷ []) byte (torn ranges byte bytes)) in
    let inside : place < length bytes = omega (arith, length-torn ranges byte bytes) in
    get_or-torn (range ∷ []) byte (torn ranges byte bytes) place inner
    ∙ rw (get_or-torn ranges byte bytes place inside, get_or-torn (range ∷ ranges) byte bytes place inside) (either (nat_le range.0 place && nat_lt place range.1) (is_within ranges place) byte (get_or bytes place 0)))

-- these bytes with one range filled
abbrev fill : ℕ → ℕ → ℕ → List ℕ → List ℕ
fill at size byte bytes = take at bytes ++ replicate (min (at + size) (length bytes) - at) byte ++ drop (at + size) bytes

fill_below : (at size byte : ℕ) (bytes : List ℕ) (place : ℕ) → place < length bytes → place < at → get_or (fill at size byte bytes) place 0 ≡ get_or bytes place 0
fill_below at size byte bytes place within low = grind (arith, common_steps)

fill_within : (at size byte : ℕ) (bytes : List ℕ) (place : ℕ) → place < length bytes → at ≤ place → place < at + size → get_or (fill at size byte bytes) place 0 ≡ byte
fill_within at size byte bytes place within low high = grind (arith, common_steps)

fill_above : (at size byte : ℕ) (bytes : List ℕ) (place : ℕ) → place < length bytes → at + size ≤ place → get_or (fill at size byte bytes) place 0 ≡ get_or bytes place 0
fill_above at size byte bytes place within high = grind (arith, common_steps)

fill_at : (at size byte : ℕ) (bytes : List ℕ) (place : ℕ) → place < length bytes
    → get_or (fill at size byte bytes) place 0 ≡ (if is_within ((at, at + size) ∷ []) place then byte else get_or bytes place 0)
fill_at at size byte bytes place within = ⊎_elim
    (λ (low : place < at). let out : is_within ((at, at + size) ∷ []) place ≡ false = outside ((at, at + size) ∷ []) place (inl low, tt) in rw out (fill_below at size byte bytes place within low))
    (λ (low : at ≤ place). ⊎_elim
    (λ (high : place < at + size). let inside : is_within ((at, at + size) ∷ []) place ≡ true = grind (arith, nat_tests) in rw inside (fill_within at size byte bytes place within low high))
    (λ (high : at + size ≤ place). let out : is_within ((at, at + size) ∷ []) place ≡ false = outside ((at, at + size) ∷ []) place (inr high, tt) in rw out (fill_above at size byte bytes place within high))
    (cases_lt place (at + size)))
    (cases_lt place at)

-- one range, filled
pub torn_one : (at size byte : ℕ) (bytes : List ℕ) → take at bytes ++ replicate (min (at + size) (length bytes) - at) byte ++ drop (at + size) bytes ≡ torn ((at, at + size) ∷ []) byte bytes
torn_one at size byte bytes =
    fill_by_all (λ place. if is_within ((at, at + size) ∷ []) place then byte else get_or bytes place 0) (fill at size byte bytes) (length bytes) 0
    (grind (arith, common_steps)) (fill_at at size byte bytes)
