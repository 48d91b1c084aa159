-- The operations that are read off sources make the copy that the sources describe.
use Rattle.std.proofs.Common.{◌≡◌, ℕ, zero, suc, ◌+◌, ◌-◌, ◌<◌, ◌≤◌, ◌⊎◌, inl, inr, List, [], ◌∷◌, ◌++◌, length, map, take, drop, refl, sym, ◌∙◌, ap, subst, arith, append_assoc, add-one, drop-cons, Bool, true, false, cond}
use Rattle.std.specs.Prelude.{◌≢◌, Some, slice_get, slice_index, ◌==◌}
use Rattle.std.proofs.lemmas.List.{append-nil, take_at, drop_at, length-append}
use Rattle.std.proofs.Math.Seq.{get_or-append_seam}
use Rattle.std.specs.Char.Utf16.{is_high_surrogate, is_low_surrogate}
use Rattle.pad_text.specs.Text.{IsText, CutsPair}
use Rattle.pad_text.proofs.CallerLemmas.{IsText-take, IsText-drop}
use Rattle.std.proofs.lemmas.Bool.{eqb-true, eqb-false}
use Rattle.pad_patch.specs.declared.operation.Operation.{Operation}
use Rattle.pad_patch.specs.declared.patch.Patch.{Patch}
use Rattle.pad_patch.specs.Piece.{end_of}
use Rattle.pad_patch.specs.UnitStore.{between}
use Rattle.pad_patch.proofs.CallerLemmas.{IsLaid, IsLaid-before}
use Rattle.pad_patch.proofs.CallerLemmas.{copy_from, copy_from-split}
use Rattle.pad_merge.specs.UnitSource.{UnitSource, kept_at, new_unit, unit_of, IsAscending}
use Rattle.pad_merge.specs.CopiedUnit.{new_or_letter}
use Rattle.pad_merge.specs.Merge.{gap, operations_between, IsNormal}
use Rattle.pad_merge.proofs.Sources.{ascending_bounds}

-- the operation of a gap
abbrev pub replacing : ℕ → ℕ → List ℕ → Operation
replacing from to insert = record { offset = from; remove = to - from; insert = insert }

-- a gap is no operation where nothing is left out and nothing is new, and one otherwise
pub data IsGap (from to : ℕ) (insert : List ℕ) (operations : List Operation) : Type 0 where
  none : from ≡ to → insert ≡ [] → operations ≡ [] → IsGap from to insert operations
  one : (from ≢ to) ⊎ (0 < length insert) → operations ≡ replacing from to insert ∷ [] → IsGap from to insert operations

gap_test : (from to : ℕ) (test : Bool) → (from == to) ≡ test → IsGap from to [] (cond test [] (replacing from to [] ∷ []))
gap_test from to true same = none (eqb-true from to same) refl refl
gap_test from to false other = one (inl (eqb-false from to other)) refl

pub gap_cases : (from to : ℕ) (insert : List ℕ) → IsGap from to insert (gap from to insert)
gap_cases from to [] = gap_test from to (from == to) refl
gap_cases from to (unit ∷ units) = one (inr (omega arith)) refl

-- the end of a gap's operation
ends : (from to : ℕ) (insert : List ℕ) → from ≤ to → end_of (replacing from to insert) ≡ to
ends from to insert order = omega arith

laid_bounds : (place size : ℕ) (operations : List Operation) → IsLaid place size operations → place ≤ size
laid_bounds place size [] laid_out = laid_out
laid_bounds place size (operation ∷ operations) (starts, inside, rest) = omega arith

-- a gap in front of operations that stand in order behind it
laid_gap : (from to size : ℕ) (insert : List ℕ) (later found : List Operation) → IsGap from to insert found → from ≤ to → IsLaid to size later → IsLaid from size (found ++ later)
laid_gap from to size insert later found (none same nothing is) order laid_out =
    rw is (subst (λ n. IsLaid n size later) (sym same) laid_out)
laid_gap from to size insert later found (one some is) order laid_out =
    let end = ends from to insert order in
    rw is (omega arith, omega (arith, end, laid_bounds to size later laid_out), subst (λ n. IsLaid n size later) (sym end) laid_out)

-- the copy of a gap is its new units
copy_gap : (text : List ℕ) (from to : ℕ) (insert : List ℕ) (later found : List Operation) → IsGap from to insert found → from ≤ to
    → copy_from text from (found ++ later) ≡ insert ++ copy_from text to later
copy_gap text from to insert later found (none same nothing is) order =
    ap (λ os. copy_from text from (os ++ later)) is ∙ ap (λ n. copy_from text n later) same ∙ ap (λ xs. xs ++ copy_from text to later) (sym nothing)
copy_gap text from to insert later found (one some is) order =
    let kept_none : from - from ≡ 0 = omega arith in
    ap (λ os. copy_from text from (os ++ later)) is
    ∙ ap (λ n. take n (drop from text) ++ (insert ++ copy_from text (end_of (replacing from to insert)) later)) kept_none
    ∙ ap (λ n. insert ++ copy_from text n later) (ends from to insert order)

one_more : (n : ℕ) → suc n - n ≡ 1
one_more n = omega arith

laid_before : (at size : ℕ) (operations : List Operation) → IsLaid (suc at) size operations → IsLaid at size operations
laid_before at size operations laid_out = IsLaid-before at (suc at) size operations (omega arith) laid_out

-- the operations stand in order
pub laid_between : (place size : ℕ) (inserted : List ℕ) (sources : List UnitSource) → IsAscending place size sources → IsLaid place size (operations_between place inserted size sources)
laid_between place size inserted [] rises =
    subst (IsLaid place size) (append-nil (gap place size inserted))
    (laid_gap place size size inserted [] (gap place size inserted) (gap_cases place size inserted) rises (omega arith))
laid_between place size inserted (kept_at at ∷ sources) rises =
    let later = operations_between (suc at) [] size sources in
    let above = ascending_bounds (suc at) size sources rises.1 in
    let rest = laid_between (suc at) size [] sources rises.1 in
    laid_gap place at size inserted later (gap place at inserted) (gap_cases place at inserted) rises.0 (laid_before at size later rest)
laid_between place size inserted (new_unit unit ∷ sources) rises = laid_between place size (inserted ++ unit ∷ []) sources rises

-- their copy is what the sources stand for
pub copy_between : (text : List ℕ) (place : ℕ) (inserted : List ℕ) (sources : List UnitSource) → IsAscending place (length text) sources
    → copy_from text place (operations_between place inserted (length text) sources) ≡ inserted ++ map (unit_of text) sources
copy_between text place inserted [] rises =
    let found = gap place (length text) inserted in
    let nothing_left : length text - length text ≡ 0 = omega arith in
    ap (copy_from text place) (sym (append-nil found))
    ∙ copy_gap text place (length text) inserted [] found (gap_cases place (length text) inserted) rises
    ∙ ap (λ n. inserted ++ (take n (drop (length text) text) ++ [])) nothing_left
copy_between text place inserted (kept_at at ∷ sources) rises =
    let later = operations_between (suc at) [] (length text) sources in
    let within : at < length text = ascending_bounds (suc at) (length text) sources rises.1 in
    let unit : between at (suc at) text ≡ slice_index text at ∷ [] =
    ap (λ n. take n (drop at text)) (one_more at) ∙ ap (take 1) (drop-cons text at 0 within) in
    copy_gap text place at inserted later (gap place at inserted) (gap_cases place at inserted) rises.0
    ∙ ap (λ xs. inserted ++ xs) (copy_from-split text at (suc at) later (omega arith) (laid_between (suc at) (length text) [] sources rises.1))
    ∙ ap (λ xs. inserted ++ (xs ++ copy_from text (suc at) later)) unit
    ∙ ap (λ xs. inserted ++ (slice_index text at ∷ xs)) (copy_between text (suc at) [] sources rises.1)
copy_between text place inserted (new_unit unit ∷ sources) rises =
    copy_between text place (inserted ++ unit ∷ []) sources rises ∙ append_assoc inserted (unit ∷ []) (map (unit_of text) sources)

-- a letter is no surrogate: a text is cut before it and behind it
text_before : (inserted rest : List ℕ) → IsText (inserted ++ 0x61 ∷ rest) → IsText inserted
text_before inserted rest text =
    let apart : CutsPair (inserted ++ 0x61 ∷ rest) (length inserted) → ⊥ = λ cut.
    let low : is_low_surrogate (slice_index (inserted ++ 0x61 ∷ rest) (length inserted)) ≡ false = ap is_low_surrogate (get_or-append_seam inserted 0x61 rest 0) in
    let told : is_low_surrogate (slice_index (inserted ++ 0x61 ∷ rest) (length inserted)) ≡ true = cut.low in
    cc in
    subst IsText (take_at inserted (0x61 ∷ rest) (length inserted) refl) (IsText-take (inserted ++ 0x61 ∷ rest) (length inserted) text apart)

text_behind : (inserted rest : List ℕ) → IsText (inserted ++ 0x61 ∷ rest) → IsText rest
text_behind inserted rest text =
    let place = length inserted + 1 in
    let before : place - 1 ≡ length inserted = omega arith in
    let apart : CutsPair (inserted ++ 0x61 ∷ rest) place → ⊥ = λ cut.
    let high : is_high_surrogate (slice_index (inserted ++ 0x61 ∷ rest) (place - 1)) ≡ false =
    ap (λ n. is_high_surrogate (slice_index (inserted ++ 0x61 ∷ rest) n)) before ∙ ap is_high_surrogate (get_or-append_seam inserted 0x61 rest 0) in
    let told : is_high_surrogate (slice_index (inserted ++ 0x61 ∷ rest) (place - 1)) ≡ true = cut.high in
    cc in
    let front : (inserted ++ 0x61 ∷ []) ++ rest ≡ inserted ++ 0x61 ∷ rest = append_assoc inserted (0x61 ∷ []) rest in
    subst IsText (ap (drop place) (sym front) ∙ drop_at (inserted ++ 0x61 ∷ []) rest place (length-append inserted (0x61 ∷ [])))
    (IsText-drop (inserted ++ 0x61 ∷ rest) place text apart)

-- what is known of the sources that are left, where the next one is kept
pub record IsKept (inserted : List ℕ) (place size at : ℕ) (left : List UnitSource) : Type 0 where
  pub order : place ≤ at
  pub below : at < size
  pub text : IsText inserted
  pub rising : IsAscending (suc at) size left
  pub later : IsText (map new_or_letter left)

pub kept_next : (inserted : List ℕ) (place size at : ℕ) (left all : List UnitSource) → all ≡ kept_at at ∷ left → IsAscending place size all → IsText (inserted ++ map new_or_letter all)
    → IsKept inserted place size at left
kept_next inserted place size at left all is rises text =
    let rising = subst (IsAscending place size) is rises in
    let units = subst (λ xs. IsText (inserted ++ map new_or_letter xs)) is text in
    record {
      order = rising.0;
      below = ascending_bounds (suc at) size left rising.1;
      text = text_before inserted (map new_or_letter left) units;
      rising = rising.1;
      later = text_behind inserted (map new_or_letter left) units;
    }

-- the operations where the next source is kept
pub read_kept : (before after : List Operation) (inserted left_over : List ℕ) (place size at : ℕ) (left all : List UnitSource) → all ≡ kept_at at ∷ left
    → after ≡ before ++ gap place at inserted → left_over ≡ []
    → after ++ operations_between (at + 1) left_over size left ≡ before ++ operations_between place inserted size all
read_kept before after inserted left_over place size at left all is grown nothing =
    ap (λ os. os ++ operations_between (at + 1) left_over size left) grown
    ∙ append_assoc before (gap place at inserted) (operations_between (at + 1) left_over size left)
    ∙ ap (λ us. before ++ (gap place at inserted ++ operations_between (at + 1) us size left)) nothing
    ∙ ap (λ n. before ++ (gap place at inserted ++ operations_between n [] size left)) (add-one at)
    ∙ ap (λ xs. before ++ operations_between place inserted size xs) (sym is)

-- the operations where the next source is new
pub read_new : (before : List Operation) (inserted grown : List ℕ) (place size unit : ℕ) (left all : List UnitSource) → all ≡ new_unit unit ∷ left
    → grown ≡ inserted ++ unit ∷ []
    → before ++ operations_between place grown size left ≡ before ++ operations_between place inserted size all
read_new before inserted grown place size unit left all is more =
    ap (λ us. before ++ operations_between place us size left) more
    ∙ ap (λ xs. before ++ operations_between place inserted size xs) (sym is)

pub text_new : (inserted grown : List ℕ) (unit : ℕ) (left all : List UnitSource) → all ≡ new_unit unit ∷ left → grown ≡ inserted ++ unit ∷ []
    → IsText (inserted ++ map new_or_letter all) → IsText (grown ++ map new_or_letter left)
text_new inserted grown unit left all is more text =
    let same : inserted ++ map new_or_letter all ≡ grown ++ map new_or_letter left =
    ap (λ xs. inserted ++ map new_or_letter xs) is ∙ sym (append_assoc inserted (unit ∷ []) (map new_or_letter left)) ∙ ap (λ us. us ++ map new_or_letter left) (sym more) in
    subst IsText same text

-- operations from a place on that do not touch, none of them empty
abbrev pub IsSpaced : ℕ → List Operation → Type 0
IsSpaced low [] = Unit {0}
IsSpaced low (operation ∷ operations) =
    (low ≤ operation.offset) × ((0 < operation.remove) ⊎ (0 < length operation.insert)) × IsSpaced (suc (end_of operation)) operations

spaced_lower : (low lower : ℕ) (operations : List Operation) → lower ≤ low → IsSpaced low operations → IsSpaced lower operations
spaced_lower low lower [] order spaced = tt
spaced_lower low lower (operation ∷ operations) order (starts, needed, rest) = (omega arith, needed, rest)

some_left : (from to : ℕ) (insert : List ℕ) → from ≤ to → (from ≢ to) ⊎ (0 < length insert) → (0 < to - from) ⊎ (0 < length insert)
some_left from to insert order (inl other) = inl (omega arith)
some_left from to insert order (inr some) = inr some

spaced_gap : (from to : ℕ) (insert : List ℕ) (later found : List Operation) → IsGap from to insert found → from ≤ to → IsSpaced (suc to) later → IsSpaced from (found ++ later)
spaced_gap from to insert later found (none same nothing is) order spaced = rw is (spaced_lower (suc to) from later (omega arith) spaced)
spaced_gap from to insert later found (one some is) order spaced =
    rw is (omega arith, some_left from to insert order some, subst (λ n. IsSpaced (suc n) later) (sym (ends from to insert order)) spaced)

-- the operations do not touch, and none is empty
pub spaced_between : (place size : ℕ) (inserted : List ℕ) (sources : List UnitSource) → IsAscending place size sources → IsSpaced place (operations_between place inserted size sources)
spaced_between place size inserted [] rises =
    subst (IsSpaced place) (append-nil (gap place size inserted))
    (spaced_gap place size inserted [] (gap place size inserted) (gap_cases place size inserted) rises tt)
spaced_between place size inserted (kept_at at ∷ sources) rises =
    spaced_gap place at inserted (operations_between (suc at) [] size sources) (gap place at inserted) (gap_cases place at inserted) rises.0
    (spaced_between (suc at) size [] sources rises.1)
spaced_between place size inserted (new_unit unit ∷ sources) rises = spaced_between place size (inserted ++ unit ∷ []) sources rises

untouched_at : (low index : ℕ) (operations : List Operation) (earlier later : Operation) → IsSpaced low operations
    → slice_get operations index ≡ Some earlier → slice_get operations (suc index) ≡ Some later → end_of earlier < later.offset
untouched_at low index [] earlier later spaced is_earlier is_later = cc
untouched_at low zero (first ∷ []) earlier later spaced is_earlier is_later = cc
untouched_at low zero (first ∷ second ∷ operations) earlier later spaced is_earlier is_later =
    let same_first : first ≡ earlier = cc in
    let same_second : second ≡ later = cc in
    omega (arith, spaced.2.0, ap end_of same_first, ap (λ (o : Operation). o.offset) same_second)
untouched_at low (suc index) (first ∷ operations) earlier later spaced is_earlier is_later =
    untouched_at (suc (end_of first)) index operations earlier later spaced.2 is_earlier is_later

needed_at : (low index : ℕ) (operations : List Operation) (operation : Operation) → IsSpaced low operations
    → slice_get operations index ≡ Some operation → (0 < operation.remove) ⊎ (0 < length operation.insert)
needed_at low index [] operation spaced is = cc
needed_at low zero (first ∷ operations) operation spaced is =
    let same : first ≡ operation = cc in
    subst (λ (o : Operation). (0 < o.remove) ⊎ (0 < length o.insert)) same spaced.1
needed_at low (suc index) (first ∷ operations) operation spaced is = needed_at (suc (end_of first)) index operations operation spaced.2 is

pub normal_spaced : (patch : Patch) → IsSpaced 0 patch.ops → IsNormal patch
normal_spaced patch spaced = record {
  untouched = λ index earlier later is_earlier is_later. untouched_at 0 index patch.ops earlier later spaced is_earlier (rw add-one at is_later);
  needed = λ index operation is. needed_at 0 index patch.ops operation spaced is;
}
