-- Rows of units with their marks, in which the two units of a pair have successive marks.
use Rattle.std.proofs.Common.{◌≡◌, ℕ, zero, suc, ◌+◌, ◌-◌, ◌<◌, ◌≤◌, ◌⊎◌, inl, inr, Bool, true, false, cond, IsTrue, List, [], ◌∷◌, ◌++◌, length, map, take, drop, replicate, refl, sym, ◌∙◌, ap, subst, arith}
use Rattle.std.specs.Prelude.{Option, Some, None, slice_get, if◌then◌else◌}
use Rattle.std.specs.Char.Utf16.{is_high_surrogate, is_low_surrogate}
use Rattle.std.proofs.lemmas.List.{append-nil, take_all, length-drop}
use Rattle.pad_patch.specs.declared.operation.Operation.{Operation}
use Rattle.pad_patch.specs.Piece.{end_of, pieces_from, patched_pieces}
use Rattle.pad_patch.proofs.CallerLemmas.{IsLaid, part, length-part, range-drop, get-drop, get-take}
use Rattle.pad_stroke.specs.declared.mark.Mark.{Mark}
use Rattle.pad_row.specs.Pairs.{IsNextMark}

-- a unit with its mark
abbrev pub Unit2 : Type 0
Unit2 = ℕ × Mark

abbrev pub Units : Type 0
Units = List (Option Unit2)

-- what is awaited after a unit: the next mark of its edit after a high surrogate, and nothing else
abbrev pub awaited : ℕ → Mark → Option Mark
awaited unit mark = if is_high_surrogate unit then Some mark else None

-- the units go on well from a state, which is the mark of a high surrogate just before, if there is one
abbrev pub Goes : Option Mark → Units → Type 0
Goes state [] = Unit {0}
Goes None (None ∷ row) = Goes None row
Goes (Some mark) (None ∷ row) = ⊥
Goes None (Some (unit, mark) ∷ row) = (is_low_surrogate unit ≡ false) × Goes (awaited unit mark) row
Goes (Some before) (Some (unit, mark) ∷ row) = (is_low_surrogate unit ≡ true) × IsNextMark before mark × Goes None row

-- the state after units
abbrev pub ending : Option Mark → Units → Option Mark
ending state [] = state
ending state (None ∷ row) = ending None row
ending None (Some (unit, mark) ∷ row) = ending (awaited unit mark) row
ending (Some before) (Some (unit, mark) ∷ row) = ending None row

-- the units go well from nothing to nothing
abbrev pub Good : Units → Type 0
Good row = Goes None row × (ending None row ≡ None)

pub goes_append : (state : Option Mark) (xs ys : Units) → Goes state xs → Goes (ending state xs) ys → Goes state (xs ++ ys)
goes_append state [] ys first second = second
goes_append None (None ∷ xs) ys first second = goes_append None xs ys first second
goes_append (Some mark) (None ∷ xs) ys first second = absurd first
goes_append None (Some (unit, mark) ∷ xs) ys first second = (first.0, goes_append (awaited unit mark) xs ys first.1 second)
goes_append (Some before) (Some (unit, mark) ∷ xs) ys first second = (first.0, first.1, goes_append None xs ys first.2 second)

pub ending_append : (state : Option Mark) (xs ys : Units) → ending state (xs ++ ys) ≡ ending (ending state xs) ys
ending_append state [] ys = refl
ending_append None (None ∷ xs) ys = ending_append None xs ys
ending_append (Some mark) (None ∷ xs) ys = ending_append None xs ys
ending_append None (Some (unit, mark) ∷ xs) ys = ending_append (awaited unit mark) xs ys
ending_append (Some before) (Some (unit, mark) ∷ xs) ys = ending_append None xs ys

goes_first : (state : Option Mark) (xs ys : Units) → Goes state (xs ++ ys) → Goes state xs
goes_first state [] ys goes = tt
goes_first None (None ∷ xs) ys goes = goes_first None xs ys goes
goes_first (Some mark) (None ∷ xs) ys goes = absurd goes
goes_first None (Some (unit, mark) ∷ xs) ys goes = (goes.0, goes_first (awaited unit mark) xs ys goes.1)
goes_first (Some before) (Some (unit, mark) ∷ xs) ys goes = (goes.0, goes.1, goes_first None xs ys goes.2)

goes_second : (state : Option Mark) (xs ys : Units) → Goes state (xs ++ ys) → Goes (ending state xs) ys
goes_second state [] ys goes = goes
goes_second None (None ∷ xs) ys goes = goes_second None xs ys goes
goes_second (Some mark) (None ∷ xs) ys goes = absurd goes
goes_second None (Some (unit, mark) ∷ xs) ys goes = goes_second (awaited unit mark) xs ys goes.1
goes_second (Some before) (Some (unit, mark) ∷ xs) ys goes = goes_second None xs ys goes.2

pub good_append : (xs ys : Units) → Good xs → Good ys → Good (xs ++ ys)
good_append xs ys first second = (
  goes_append None xs ys first.0 (subst (λ s. Goes s ys) (sym first.1) second.0),
  ending_append None xs ys ∙ ap (λ s. ending s ys) first.1 ∙ second.1,
)

-- where units end in the middle of a pair, the last one is a high surrogate
awaited_is : (unit : ℕ) (mark before : Mark) (test : Bool) → is_high_surrogate unit ≡ test → awaited unit mark ≡ Some before → (mark ≡ before) × (is_high_surrogate unit ≡ true)
awaited_is unit mark before true high is =
    let shown : awaited unit mark ≡ Some mark = ap (λ t. cond t (Some mark) None) high in
    let same : Some mark ≡ Some before = sym shown ∙ is in
    (cc, high)
awaited_is unit mark before false high is =
    let shown : awaited unit mark ≡ None = ap (λ t. cond t (Some mark) None) high in
    let never : None ≡ Some before = sym shown ∙ is in
    cc

-- the last of some units
pub record IsLast (xs : Units) (mark : Mark) : Type 0 where
  pub place : ℕ
  pub unit : ℕ
  pub ends : suc place ≡ length xs
  pub stands : slice_get xs place ≡ Some (Some (unit, mark))
  pub high : is_high_surrogate unit ≡ true

later : (x : Option Unit2) (xs : Units) (mark : Mark) → IsLast xs mark → IsLast (x ∷ xs) mark
later x xs mark last = record { place = suc last.place; unit = last.unit; ends = ap suc last.ends; stands = last.stands; high = last.high }

last_of : (state : Option Mark) (xs : Units) (mark : Mark) → ending state xs ≡ Some mark → ((state ≡ Some mark) × (xs ≡ [])) ⊎ IsLast xs mark
last_of state [] mark is = inl (is, refl)
last_of state (None ∷ xs) mark is = elim (last_of None xs mark is) [
  | inl here ↦ let never : None ≡ Some mark = here.0 in cc
  | inr last ↦ inr (later None xs mark last)
]
last_of None (Some (unit, own) ∷ xs) mark is = elim (last_of (awaited unit own) xs mark is) [
  | inl here ↦
      let found = awaited_is unit own mark (is_high_surrogate unit) refl here.0 in
      inr (record { place = 0; unit = unit; ends = ap (λ ys. suc (length ys)) (sym here.1); stands = ap (λ m. Some (Some (unit, m))) found.0; high = found.1 })
  | inr last ↦ inr (later (Some (unit, own)) xs mark last)
]
last_of (Some before) (Some (unit, own) ∷ xs) mark is = elim (last_of None xs mark is) [
  | inl here ↦ let never : None ≡ Some mark = here.0 in cc
  | inr last ↦ inr (later (Some (unit, own)) xs mark last)
]

-- and the first one after it a low surrogate
first_of : (mark : Mark) (ys : Units) → Goes (Some mark) ys → ending (Some mark) ys ≡ None → (unit : ℕ) × (own : Mark) × (slice_get ys 0 ≡ Some (Some (unit, own))) × (is_low_surrogate unit ≡ true)
first_of mark [] goes is = cc
first_of mark (None ∷ ys) goes is = absurd goes
first_of mark (Some (unit, own) ∷ ys) goes is = (unit, own, refl, goes.0)

-- no pair stands around a place of the units
abbrev pub IsUncut : Units → ℕ → Type 0
IsUncut row place =
    (before high low : ℕ) (first second : Mark) → suc before ≡ place → slice_get row before ≡ Some (Some (high, first)) → slice_get row place ≡ Some (Some (low, second))
    → is_high_surrogate high ≡ true → is_low_surrogate low ≡ true → ⊥

-- good units are good on both sides of a place that cuts no pair
split_by : (row : Units) (low high : ℕ) → low ≤ high → high ≤ length row → Goes None (part low high row ++ drop high row) → ending None (part low high row ++ drop high row) ≡ None → IsUncut row high
    → (state : Option Mark) → ending None (part low high row) ≡ state → Good (part low high row) × Good (drop high row)
split_by row low high order within goes ends uncut None is = (
  (goes_first None (part low high row) (drop high row) goes, is),
  (subst (λ s. Goes s (drop high row)) is (goes_second None (part low high row) (drop high row) goes), ap (λ s. ending s (drop high row)) (sym is) ∙ sym (ending_append None (part low high row) (drop high row)) ∙ ends),
)
split_by row low high order within goes ends uncut (Some mark) is =
    let first = part low high row in
    let second = drop high row in
    let goes_on = subst (λ s. Goes s second) is (goes_second None first second goes) in
    let ended = ap (λ s. ending s second) (sym is) ∙ sym (ending_append None first second) ∙ ends in
    let next = first_of mark second goes_on ended in
    elim (last_of None first mark is) [
      | inl here ↦ let never : None ≡ Some mark = here.0 in cc
      | inr last ↦
          let long = length-part low high row within in
          let end : suc (low + last.place) ≡ high = omega (arith, last.ends, long) in
          let at_high : slice_get row (low + last.place) ≡ Some (Some (last.unit, mark)) =
          sym (get-drop low row last.place) ∙ sym (get-take (high - low) (drop low row) last.place (omega (arith, last.ends, long))) ∙ last.stands in
          let zero_more : high + 0 ≡ high = omega arith in
          let at_low : slice_get row high ≡ Some (Some (next.0, next.1)) = ap (slice_get row) (sym zero_more) ∙ sym (get-drop high row 0) ∙ next.2 in
          absurd (uncut (low + last.place) last.unit next.0 mark next.1 end at_high at_low last.high next.3)
    ]

pub good_split : (row : Units) (low high : ℕ) → low ≤ high → high ≤ length row → Good (drop low row) → IsUncut row high → Good (part low high row) × Good (drop high row)
good_split row low high order within good uncut =
    let whole = sym (range-drop low high row order) in
    split_by row low high order within (subst (Goes None) whole good.0) (ap (ending None) (sym whole) ∙ good.1) uncut (ending None (part low high row)) refl

-- new units, operation by operation
abbrev pub GoodParts : Units → List Operation → Type 0
GoodParts entries [] = Unit {0}
GoodParts entries (operation ∷ operations) = Good (take (length operation.insert) entries) × GoodParts (drop (length operation.insert) entries) operations

-- no operation cuts a pair of the units
abbrev pub AreUncut : Units → List Operation → Type 0
AreUncut row [] = Unit {0}
AreUncut row (operation ∷ operations) = IsUncut row operation.offset × IsUncut row (end_of operation) × AreUncut row operations

-- good units stay good where they are copied, if no pair is cut
pub good_copied : (row entries : Units) (place size : ℕ) (operations : List Operation) → size ≡ length row → IsLaid place size operations → Good (drop place row) → AreUncut row operations → GoodParts entries operations
    → Good (patched_pieces row entries (pieces_from place size operations))
good_copied row entries place size [] long laid_out good uncut news =
    subst Good (sym (append-nil (part place size row) ∙ take_all (size - place) (drop place row) (omega (arith, length-drop place row, long)))) good
good_copied row entries place size (operation ∷ operations) long (starts, inside, rest) good uncut news =
    let end = end_of operation in
    let count = length operation.insert in
    let kept = part place operation.offset row in
    let order : operation.offset ≤ end = omega arith in
    let first = good_split row place operation.offset starts (omega (arith, inside, long)) good uncut.0 in
    let second = good_split row operation.offset end order (omega (arith, inside, long)) first.1 uncut.1 in
    let later = patched_pieces row (drop count entries) (pieces_from end size operations) in
    good_append kept (take count entries ++ later) first.0
    (good_append (take count entries) later news.0 (good_copied row (drop count entries) end size operations long rest second.1 uncut.2 news.1))

-- units of a text alone
pub good_none : (size : ℕ) → Good (replicate size None)
good_none zero = (tt, refl)
good_none (suc size) = good_none size
