-- Where a mark stands in a list, and whether it does.
use Rattle.std.proofs.Common.{◌≡◌, ℕ, suc, ◌+◌, ◌<◌, ◌⊎◌, inl, inr, Bool, true, false, cond, List, [], ◌∷◌, length, take, drop, refl, sym, ◌∙◌, ap, arith}
use Rattle.std.specs.Prelude.{◌||◌, Some, None, not, position}
use Rattle.std.specs.List.{list_any, position_or_len}
use Rattle.std.proofs.lemmas.Bool.{lt-ltb}
use Rattle.std.proofs.lemmas.List.{take-append-drop}
use Rattle.std.proofs.lemmas.List.Folds.{list_any-append, list_any_at}
use Rattle.std.proofs.lemmas.List.Quantifiers.{position-Some}
use Rattle.pad_stroke.specs.declared.mark.Mark.{Mark}
use Rattle.pad_stroke.specs.InTurn.{no_mark}
use Rattle.pad_stroke.specs.Strip.{same_mark, stays}

found_by : (test : Bool) (place size : ℕ) (any : Bool) → (place < size) ⊎ (any ≡ false) → (cond (not test) (1 + place) 0 < suc size) ⊎ ((test || any) ≡ false)
found_by true place size any found = inl (omega arith)
found_by false place size any (inl before) = inl (omega arith)
found_by false place size any (inr none) = inr none

found_or_none : (test : Mark → Bool) (marks : List Mark) → (position_or_len test marks < length marks) ⊎ (list_any test marks ≡ false)
found_or_none test [] = inr refl
found_or_none test (mark ∷ marks) =
    found_by (test mark) (position_or_len test marks) (length marks) (list_any test marks) (found_or_none test marks)

-- a mark that is found does not stay
pub stays-found : (gone : List Mark) (mark : Mark) (place : ℕ) → position (λ other. same_mark other mark) gone ≡ Some place → stays gone mark ≡ false
stays-found gone mark place is =
    let test = λ (other : Mark). same_mark other mark in
    let found = position-Some test gone place no_mark is in
    ap not (list_any_at test gone place no_mark found.0 found.1)

-- a mark that is not found stays
pub stays-none : (gone : List Mark) (mark : Mark) → position (λ other. same_mark other mark) gone ≡ None → stays gone mark ≡ true
stays-none gone mark is =
    let test = λ (other : Mark). same_mark other mark in
    elim (found_or_none test gone) [
      | inl before ↦
          let there = ap (λ t. cond t (Some (position_or_len test gone)) None) (lt-ltb (position_or_len test gone) (length gone) before) in
          absurd (some_none (position_or_len test gone) (sym there ∙ is))
      | inr none ↦ ap not none
    ]
  where
    some_none : (place : ℕ) → Some place ≡ None → ⊥
    some_none place is = cc

not_or_true : (s : Bool) → not (s || true) ≡ false
not_or_true true = refl
not_or_true false = refl

any_of : (gone : List Mark) (mark : Mark) (place : ℕ) → list_any (λ other. same_mark other mark) gone
    ≡ (list_any (λ other. same_mark other mark) (take place gone) || list_any (λ other. same_mark other mark) (drop place gone))
any_of gone mark place =
    let test = λ (other : Mark). same_mark other mark in
    ap (list_any test) (sym (take-append-drop place gone)) ∙ list_any-append test (take place gone) (drop place gone)

both_by : (s t : Bool) → not s ≡ true → not (s || t) ≡ not t
both_by true t is = cc
both_by false t is = refl

behind_by : (s t : Bool) → not t ≡ false → not (s || t) ≡ false
behind_by s true is = not_or_true s
behind_by s false is = cc

front_by : (s t : Bool) → not s ≡ false → not (s || t) ≡ false
front_by true t is = refl
front_by false t is = cc

-- a mark that does not stay among those from a place on, or among those before it, does not stay
pub stays-behind : (gone : List Mark) (mark : Mark) (place : ℕ) → stays (drop place gone) mark ≡ false → stays gone mark ≡ false
stays-behind gone mark place is =
    let test = λ (other : Mark). same_mark other mark in
    ap not (any_of gone mark place) ∙ behind_by (list_any test (take place gone)) (list_any test (drop place gone)) is

pub stays-front : (gone : List Mark) (mark : Mark) (place : ℕ) → stays (take place gone) mark ≡ false → stays gone mark ≡ false
stays-front gone mark place is =
    let test = λ (other : Mark). same_mark other mark in
    ap not (any_of gone mark place) ∙ front_by (list_any test (take place gone)) (list_any test (drop place gone)) is

-- one that stays among both stays
pub stays-both : (gone : List Mark) (mark : Mark) (place : ℕ) → stays (take place gone) mark ≡ true → stays (drop place gone) mark ≡ true → stays gone mark ≡ true
stays-both gone mark place front back =
    let test = λ (other : Mark). same_mark other mark in
    ap not (any_of gone mark place) ∙ both_by (list_any test (take place gone)) (list_any test (drop place gone)) front ∙ back
