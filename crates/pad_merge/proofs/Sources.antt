-- Sources stand for units, and a copy keeps their order.
use Rattle.std.proofs.Common.{◌≡◌, ℕ, zero, suc, ◌+◌, ◌-◌, ◌<◌, ◌≤◌, List, [], ◌∷◌, ◌++◌, length, map, take, drop, refl, sym, ◌∙◌, ap, subst, arith, append_assoc, drop-cons, add-one, slice_index_or}
use Rattle.std.specs.Prelude.{slice_index}
use Rattle.std.specs.List.{flat_map}
use Rattle.std.proofs.lemmas.List.{append-nil, take_all, length-drop}
use Rattle.pad_patch.specs.declared.operation.Operation.{Operation}
use Rattle.pad_patch.specs.declared.patch.Patch.{Patch}
use Rattle.pad_patch.specs.Piece.{Piece, end_of, pieces, pieces_from, inserted, patched, text_after}
use Rattle.pad_patch.proofs.CallerLemmas.{IsLaid, map-patched, piece_read, patched-read, range-drop}
use Rattle.pad_merge.specs.UnitSource.{UnitSource, kept_at, new_unit, kept_from, sources_after, unit_of, IsAscending}

-- a reading of sources as units, which reads a new unit as it is
abbrev pub ReadsNew : (UnitSource → ℕ) → Type 0
ReadsNew read = (unit : ℕ) → read (new_unit unit) ≡ unit

map-new : (read : UnitSource → ℕ) (units : List ℕ) → ReadsNew read → map read (map new_unit units) ≡ units
map-new read [] new = refl
map-new read (unit ∷ units) new = ap (λ u. u ∷ map read (map new_unit units)) (new unit) ∙ ap (λ us. unit ∷ us) (map-new read units new)

-- reading the sources after a patch is applying it to what they are read as
pub map-sources_after : (read : UnitSource → ℕ) (patch : Patch) (sources : List UnitSource) → ReadsNew read
    → map read (sources_after patch sources) ≡ text_after patch (map read sources)
unfolding text_after
map-sources_after read patch sources new =
    map-patched read patch (map new_unit (inserted patch)) sources ∙ ap (λ us. patched patch us (map read sources)) (map-new read (inserted patch) new)

-- the sources of a piece of the copy of units that have these sources
abbrev pub sources_of_piece : List UnitSource → Piece → List UnitSource
sources_of_piece sources = piece_read new_unit sources

-- the sources after a patch, piece by piece
pub sources-pieces : (patch : Patch) (sources : List UnitSource) → sources_after patch sources ≡ flat_map (sources_of_piece sources) (pieces patch (length sources))
sources-pieces patch sources = patched-read new_unit sources 0 (length sources) patch.ops

pub length-kept_from : (place count : ℕ) → length (kept_from place count) ≡ count
length-kept_from place zero = refl
length-kept_from place (suc count) = ap suc (length-kept_from (suc place) count)

-- the units that kept sources stand for
map-kept_from : (text : List ℕ) (place count : ℕ) → place + count ≤ length text → map (unit_of text) (kept_from place count) ≡ take count (drop place text)
map-kept_from text place zero within = refl
map-kept_from text place (suc count) within =
    let below : place < length text = omega arith in
    ap (λ us. slice_index text place ∷ us) (map-kept_from text (suc place) count (omega arith))
    ∙ ap (take (suc count)) (sym (drop-cons text place 0 below))

-- all units of a text
pub map-kept_all : (text : List ℕ) (size : ℕ) → length text ≡ size → map (unit_of text) (kept_from 0 size) ≡ text
map-kept_all text size is = map-kept_from text 0 size (omega arith) ∙ take_all size text (omega arith)

pub ascending_bounds : (low high : ℕ) (sources : List UnitSource) → IsAscending low high sources → low ≤ high
ascending_bounds low high [] rises = rises
ascending_bounds low high (kept_at at ∷ sources) rises = let above = ascending_bounds (suc at) high sources rises.1 in omega (arith, above, rises.0)
ascending_bounds low high (new_unit unit ∷ sources) rises = ascending_bounds low high sources rises

pub ascending_lower : (low lower high : ℕ) (sources : List UnitSource) → lower ≤ low → IsAscending low high sources → IsAscending lower high sources
ascending_lower low lower high [] order rises = omega arith
ascending_lower low lower high (kept_at at ∷ sources) order rises = (omega (arith, rises.0), rises.1)
ascending_lower low lower high (new_unit unit ∷ sources) order rises = ascending_lower low lower high sources order rises

pub ascending_append : (low middle high : ℕ) (xs ys : List UnitSource) → IsAscending low middle xs → IsAscending middle high ys → IsAscending low high (xs ++ ys)
ascending_append low middle high [] ys first second = ascending_lower middle low high ys first second
ascending_append low middle high (kept_at at ∷ xs) ys first second = (first.0, ascending_append (suc at) middle high xs ys first.1 second)
ascending_append low middle high (new_unit unit ∷ xs) ys first second = ascending_append low middle high xs ys first second

-- a place between two parts of sources
pub record IsBetween (low high : ℕ) (xs ys : List UnitSource) : Type 0 where
  pub middle : ℕ
  pub first : IsAscending low middle xs
  pub second : IsAscending middle high ys

pub ascending_split : (low high : ℕ) (xs ys : List UnitSource) → IsAscending low high (xs ++ ys) → IsBetween low high xs ys
ascending_split low high [] ys rises = record { middle = low; first = omega arith; second = rises }
ascending_split low high (kept_at at ∷ xs) ys rises =
    let rest = ascending_split (suc at) high xs ys rises.1 in
    record { middle = rest.middle; first = (rises.0, rest.first); second = rest.second }
ascending_split low high (new_unit unit ∷ xs) ys rises =
    let rest = ascending_split low high xs ys rises in
    record { middle = rest.middle; first = rest.first; second = rest.second }

ascending_new : (low : ℕ) (units : List ℕ) → IsAscending low low (map new_unit units)
ascending_new low [] = omega arith
ascending_new low (unit ∷ units) = ascending_new low units

pub ascending_kept : (place count : ℕ) → IsAscending place (place + count) (kept_from place count)
ascending_kept place zero = omega arith
ascending_kept place (suc count) =
    let same : suc place + count ≡ place + suc count = omega arith in
    (omega arith, subst (λ n. IsAscending (suc place) n (kept_from (suc place) count)) same (ascending_kept (suc place) count))

-- a copy of rising sources rises
ascending_from : (sources : List UnitSource) (low high place : ℕ) (operations : List Operation) → IsLaid place (length sources) operations → IsAscending low high (drop place sources)
    → IsAscending low high (flat_map (sources_of_piece sources) (pieces_from place (length sources) operations))
ascending_from sources low high place [] laid_out rises =
    subst (IsAscending low high)
    (sym (append-nil (take (length sources - place) (drop place sources)) ∙ take_all (length sources - place) (drop place sources) (omega (arith, length-drop place sources))))
    rises
ascending_from sources low high place (operation ∷ operations) (starts, inside, rest) rises =
    let start = operation.offset in
    let end = end_of operation in
    let order : start ≤ end = omega arith in
    let head = ascending_split low high (take (start - place) (drop place sources)) (drop start sources)
    (subst (IsAscending low high) (sym (range-drop place start sources starts)) rises) in
    let removed = ascending_split head.middle high (take (end - start) (drop start sources)) (drop end sources)
    (subst (IsAscending head.middle high) (sym (range-drop start end sources order)) head.second) in
    let behind = ascending_lower removed.middle head.middle high (drop end sources) (ascending_bounds head.middle removed.middle (take (end - start) (drop start sources)) removed.first) removed.second in
    let later = ascending_from sources head.middle high end operations rest behind in
    ascending_append low head.middle high (take (start - place) (drop place sources)) (map new_unit operation.insert ++ flat_map (sources_of_piece sources) (pieces_from end (length sources) operations))
    head.first
    (ascending_append head.middle head.middle high (map new_unit operation.insert) (flat_map (sources_of_piece sources) (pieces_from end (length sources) operations)) (ascending_new head.middle operation.insert) later)

pub ascending_after : (patch : Patch) (sources : List UnitSource) (low high : ℕ) → IsLaid 0 (length sources) patch.ops → IsAscending low high sources → IsAscending low high (sources_after patch sources)
ascending_after patch sources low high laid_out rises =
    subst (IsAscending low high) (sym (sources-pieces patch sources)) (ascending_from sources low high 0 patch.ops laid_out rises)

-- the elements from an index on are the one there and the later ones
pub drop-next : {A : Type 0} (items : List A) (index : ℕ) (item : A) → index < length items → item ≡ slice_index_or items index item
    → drop index items ≡ item ∷ drop (index + 1) items
drop-next items index item within is =
    drop-cons items index item within ∙ ap (λ x. x ∷ drop (suc index) items) (sym is) ∙ ap (λ n. item ∷ drop n items) (sym (add-one index))

-- one more kept unit
pub kept_from-next : (place size : ℕ) → place < size → kept_from place (size - place) ≡ kept_at place ∷ kept_from (place + 1) (size - (place + 1))
kept_from-next place size below =
    let count : size - place ≡ suc (size - (place + 1)) = omega arith in
    ap (kept_from place) count ∙ ap (λ n. kept_at place ∷ kept_from n (size - (place + 1))) (sym (add-one place))

pub kept_from-end : (place size : ℕ) → size ≤ place → kept_from place (size - place) ≡ []
kept_from-end place size past = let none : size - place ≡ 0 = omega arith in ap (kept_from place) none

-- the same, of an element that was read with another one for past the end
pub drop-read : {A : Type 0} (items : List A) (index : ℕ) (past item : A) → index < length items → slice_index_or items index past ≡ item
    → drop index items ≡ item ∷ drop (index + 1) items
drop-read items index past item within is =
    drop-cons items index past within ∙ ap (λ x. x ∷ drop (suc index) items) is ∙ ap (λ n. item ∷ drop n items) (sym (add-one index))

-- one more operation of a copy of sources
pub copied_next : (sources : List UnitSource) (place start end : ℕ) (operation : Operation) (later all : List Operation) (units : List ℕ) (before middle after : List UnitSource)
    → all ≡ operation ∷ later → start ≡ operation.offset → end ≡ end_of operation → units ≡ operation.insert
    → middle ≡ before ++ take (start - place) (drop place sources) → after ≡ middle ++ map new_unit units
    → after ++ flat_map (sources_of_piece sources) (pieces_from end (length sources) later) ≡ before ++ flat_map (sources_of_piece sources) (pieces_from place (length sources) all)
copied_next sources place start end operation later all units before middle after split starts ends inserts kept grown =
    let rest = flat_map (sources_of_piece sources) (pieces_from (end_of operation) (length sources) later) in
    let range = take (operation.offset - place) (drop place sources) in
    let new = map new_unit operation.insert in
    ap (λ n. after ++ flat_map (sources_of_piece sources) (pieces_from n (length sources) later)) ends
    ∙ ap (λ xs. xs ++ rest) (grown ∙ ap (λ us. middle ++ map new_unit us) inserts ∙ ap (λ xs. xs ++ new) (kept ∙ ap (λ n. before ++ take (n - place) (drop place sources)) starts))
    ∙ append_assoc (before ++ range) new rest
    ∙ append_assoc before range (new ++ rest)
    ∙ ap (λ os. before ++ flat_map (sources_of_piece sources) (pieces_from place (length sources) os)) (sym split)
