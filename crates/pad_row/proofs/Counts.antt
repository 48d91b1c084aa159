-- How often marks stand.
use Rattle.std.proofs.Common.{◌≡◌, ℕ, zero, suc, ◌+◌, ◌-◌, ◌<◌, ◌≤◌, ◌⊎◌, inl, inr, Bool, true, false, cond, List, [], ◌∷◌, ◌++◌, length, map, take, drop, replicate, refl, sym, ◌∙◌, ap, subst, arith}
use Rattle.std.specs.Prelude.{Option, Some, None, filter, Contains}
use Rattle.std.specs.List.{range_with_len}
use Rattle.std.proofs.lemmas.List.Sums.{sum_by-cons}
use Rattle.std.proofs.lemmas.List.{append-nil, take-append-drop, take_all, length-drop, length-append}
use Rattle.pad_patch.specs.declared.operation.Operation.{Operation}
use Rattle.pad_patch.specs.Piece.{end_of, pieces_from, patched_pieces, insertions}
use Rattle.pad_patch.specs.Removed.{removed_by}
use Rattle.pad_patch.proofs.CallerLemmas.{part, range-drop, somes_of, somes-append, somes-some, IsLaid, laid}
use Rattle.pad_stroke.specs.declared.mark.Mark.{Mark}
use Rattle.pad_stroke.specs.Row.{Row}
use Rattle.pad_stroke.specs.Strip.{same_mark}
use Rattle.pad_stroke.proofs.CallerLemmas.{same_true, same_self}
use Rattle.pad_row.specs.Laws.{how_often, RowCounts}

pub how_often-cons : (mark x : Mark) (xs : List Mark) → how_often mark (x ∷ xs) ≡ cond (same_mark x mark) 1 0 + how_often mark xs
how_often-cons mark x xs = sum_by-cons (λ other. cond (same_mark other mark) 1 0) x xs

pub how_often-append : (mark : Mark) (xs ys : List Mark) → how_often mark (xs ++ ys) ≡ how_often mark xs + how_often mark ys
how_often-append mark [] ys = omega arith
how_often-append mark (x ∷ xs) ys = omega (arith, how_often-cons mark x (xs ++ ys), how_often-cons mark x xs, how_often-append mark xs ys)

filter_by : (mark x : Mark) (xs ys : List Mark) (test : Bool) → how_often mark xs ≤ how_often mark ys → how_often mark (cond test (x ∷ xs) xs) ≤ how_often mark (x ∷ ys)
filter_by mark x xs ys true less = omega (arith, how_often-cons mark x xs, how_often-cons mark x ys)
filter_by mark x xs ys false less = omega (arith, how_often-cons mark x ys)

pub how_often-filter : (mark : Mark) (test : Mark → Bool) (xs : List Mark) → how_often mark (filter test xs) ≤ how_often mark xs
how_often-filter mark test [] = omega arith
how_often-filter mark test (x ∷ xs) = filter_by mark x (filter test xs) xs (test x) (how_often-filter mark test xs)

-- how often a mark stands in a row
abbrev pub in_row : Mark → Row → ℕ
in_row mark row = how_often mark (somes_of row)

pub in_row-append : (mark : Mark) (xs ys : Row) → in_row mark (xs ++ ys) ≡ in_row mark xs + in_row mark ys
in_row-append mark xs ys = ap (how_often mark) (somes-append xs ys) ∙ how_often-append mark (somes_of xs) (somes_of ys)

in_row-drop : (mark : Mark) (n : ℕ) (row : Row) → in_row mark (drop n row) ≤ in_row mark row
in_row-drop mark n row = omega (arith, in_row-append mark (take n row) (drop n row), ap (in_row mark) (take-append-drop n row))

-- what one operation does: it keeps a part of the row, removes the next part, and puts new entries in
step_often : (mark : Mark) (row entries later : Row) (place : ℕ) (operation : Operation) → place ≤ operation.offset
    → in_row mark (part place operation.offset row ++ (take (length operation.insert) entries ++ later)) + in_row mark (part operation.offset (end_of operation) row)
    + (in_row mark (drop (end_of operation) row) + in_row mark (drop (length operation.insert) entries))
    ≡ (in_row mark (drop place row) + in_row mark entries) + in_row mark later
step_often mark row entries later place operation starts =
    let count = length operation.insert in
    let end = end_of operation in
    let kept = part place operation.offset row in
    let news = take count entries in
    let left = drop count entries in
    let order : operation.offset ≤ end = omega arith in
    let out = part operation.offset end row in
    omega (
      arith,
      in_row-append mark kept (news ++ later),
      in_row-append mark news later,
      in_row-append mark kept (drop operation.offset row),
      ap (in_row mark) (range-drop place operation.offset row starts),
      in_row-append mark out (drop end row),
      ap (in_row mark) (range-drop operation.offset end row order),
      in_row-append mark news left,
      ap (in_row mark) (take-append-drop count entries),
    )

-- a copied row has a mark no more often than the row and the new entries together
copied_often : (mark : Mark) (row entries : Row) (place size : ℕ) (operations : List Operation) → IsLaid place size operations
    → in_row mark (patched_pieces row entries (pieces_from place size operations)) ≤ in_row mark (drop place row) + in_row mark entries
copied_often mark row entries place size [] laid_out =
    let kept = part place size row in
    omega (arith, ap (in_row mark) (append-nil kept), in_row-append mark kept (drop (size - place) (drop place row)), ap (in_row mark) (take-append-drop (size - place) (drop place row)))
copied_often mark row entries place size (operation ∷ operations) (starts, inside, rest) =
    let end = end_of operation in
    let left = drop (length operation.insert) entries in
    let later = patched_pieces row left (pieces_from end size operations) in
    omega (arith, step_often mark row entries later place operation starts, copied_often mark row left end size operations rest)

pub row_often : (mark : Mark) (row entries : Row) (size : ℕ) (operations : List Operation) → IsLaid 0 size operations
    → in_row mark (patched_pieces row entries (pieces_from 0 size operations)) ≤ in_row mark row + in_row mark entries
row_often mark row entries size operations laid_out = copied_often mark row entries 0 size operations laid_out

-- exactly: with what is removed of the row
all_of : (mark : Mark) (row entries : Row) (place size : ℕ) (operations : List Operation) → IsLaid place size operations → size ≡ length row → length entries ≡ length (insertions operations)
    → in_row mark (patched_pieces row entries (pieces_from place size operations)) + in_row mark (removed_by operations row) ≡ in_row mark (drop place row) + in_row mark entries
all_of mark row [] place size [] laid_out long counted =
    let kept = part place size row in
    omega (arith, ap (in_row mark) (append-nil kept), ap (in_row mark) (take_all (size - place) (drop place row) (omega (arith, long, length-drop place row))))
all_of mark row (entry ∷ entries) place size [] laid_out long counted = absurd (omega (arith, counted))
all_of mark row entries place size (operation ∷ operations) (starts, inside, rest) long counted =
    let count = length operation.insert in
    let end = end_of operation in
    let left = drop count entries in
    let later = patched_pieces row left (pieces_from end size operations) in
    omega (
      arith,
      step_often mark row entries later place operation starts,
      in_row-append mark (part operation.offset end row) (removed_by operations row),
      all_of mark row left end size operations rest long (omega (arith, counted, length-append operation.insert (insertions operations), length-drop count entries)),
    )

pub row_counts : RowCounts
row_counts patch entries row mark ordered inside counted = all_of mark row entries 0 (length row) patch.ops (laid patch (length row) ordered inside) refl counted

pub in_row-some : (mark : Mark) (marks : List Mark) → in_row mark (map Some marks) ≡ how_often mark marks
in_row-some mark marks = ap (how_often mark) (somes-some marks)

pub in_row-none : (mark : Mark) (size : ℕ) → in_row mark (replicate size None) ≡ 0
in_row-none mark zero = refl
in_row-none mark (suc size) = in_row-none mark size

-- whether a mark is one of a list
none_in : (mark : Mark) → Contains [] mark → ⊥
none_in mark (k, below, is) = omega arith

pub later_one : (x : Mark) (xs : List Mark) (mark : Mark) → Contains xs mark → Contains (x ∷ xs) mark
later_one x xs mark (k, below, is) = (suc k, omega arith, is)

head_or_tail : (x : Mark) (xs : List Mark) (mark : Mark) → Contains (x ∷ xs) mark → (x ≡ mark) ⊎ Contains xs mark
head_or_tail x xs mark (zero, below, is) = inl is
head_or_tail x xs mark (suc k, below, is) = inr (k, omega arith, is)

among_by : (x : Mark) (xs : List Mark) (mark : Mark) → Contains xs mark ⊎ ¬ (Contains xs mark) → (test : Bool) → same_mark x mark ≡ test → Contains (x ∷ xs) mark ⊎ ¬ (Contains (x ∷ xs) mark)
among_by x xs mark rest true same = inl (0, omega arith, same_true x mark same)
among_by x xs mark (inl there) false other = inl (later_one x xs mark there)
among_by x xs mark (inr none) false other = inr (λ contains. elim (head_or_tail x xs mark contains) [
  | inl here ↦ let same : same_mark x mark ≡ true = ap (λ m. same_mark m mark) here ∙ same_self mark in cc
  | inr later ↦ none later
])

pub among : (marks : List Mark) (mark : Mark) → Contains marks mark ⊎ ¬ (Contains marks mark)
among [] mark = inr (none_in mark)
among (x ∷ xs) mark = among_by x xs mark (among xs mark) (same_mark x mark) refl

none_by : (x : Mark) (xs : List Mark) (mark : Mark) → ¬ (Contains (x ∷ xs) mark) → how_often mark xs ≡ 0 → (test : Bool) → same_mark x mark ≡ test → cond test 1 0 + how_often mark xs ≡ 0
none_by x xs mark none rest true same = absurd (none (0, omega arith, same_true x mark same))
none_by x xs mark none rest false other = omega (arith, rest)

pub none_counted : (marks : List Mark) (mark : Mark) → ¬ (Contains marks mark) → how_often mark marks ≡ 0
none_counted [] mark none = refl
none_counted (x ∷ xs) mark none = how_often-cons mark x xs ∙ none_by x xs mark none (none_counted xs mark (λ contains. none (later_one x xs mark contains))) (same_mark x mark) refl

-- a mark that stands in a list stands there once at least
pub counted_there : (marks : List Mark) (mark : Mark) → Contains marks mark → 1 ≤ how_often mark marks
counted_there [] mark contains = absurd (none_in mark contains)
counted_there (x ∷ xs) mark contains = elim (head_or_tail x xs mark contains) [
  | inl here ↦
      let same : same_mark x mark ≡ true = ap (λ m. same_mark m mark) here ∙ same_self mark in
      omega (arith, how_often-cons mark x xs ∙ ap (λ t. cond t 1 0 + how_often mark xs) same)
  | inr later ↦ omega (arith, how_often-cons mark x xs, counted_there xs mark later)
]
