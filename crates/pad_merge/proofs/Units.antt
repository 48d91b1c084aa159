-- What copied units show, one more unit or one more operation at a time.
use Rattle.std.proofs.Common.{◌≡◌, ℕ, suc, ◌+◌, ◌-◌, ◌<◌, ◌≤◌, None, Some, List, [], ◌∷◌, ◌++◌, length, map, take, drop, replicate, sym, ◌∙◌, ap, arith, append_assoc}
use Rattle.std.specs.Prelude.{Option}
use Rattle.std.proofs.lemmas.List.{append-nil, map-append, length-append, length-map}
use Rattle.pad_patch.specs.declared.operation.Operation.{Operation}
use Rattle.pad_patch.specs.Piece.{end_of, pieces_from}
use Rattle.pad_merge.specs.declared.origin.Origin.{Origin}
use Rattle.pad_merge.specs.declared.copied_unit.CopiedUnit.{CopiedUnit}
use Rattle.pad_merge.specs.Origin.{numbered}
use Rattle.pad_merge.proofs.Numbers.{origins_of_pieces}
use Rattle.pad_patch.proofs.CallerLemmas.{map-take, map-drop}

-- one more unit, of which a list of all still to come begins with what it shows
pub grown_by : {A : Type 0} (show : CopiedUnit → A) (before after : List CopiedUnit) (unit : CopiedUnit) (rest all : List A)
    → after ≡ before ++ unit ∷ [] → all ≡ show unit ∷ rest → map show after ++ rest ≡ map show before ++ all
grown_by show before after unit rest all grown split =
    ap (λ us. map show us ++ rest) grown
    ∙ ap (λ xs. xs ++ rest) (map-append show before (unit ∷ []))
    ∙ append_assoc (map show before) (show unit ∷ []) rest
    ∙ ap (λ xs. map show before ++ xs) (sym split)

-- a range of more units
pub grown_range : {A : Type 0} (show : CopiedUnit → A) (before after units : List CopiedUnit) (count from : ℕ)
    → after ≡ before ++ take count (drop from units) → map show after ≡ map show before ++ take count (drop from (map show units))
grown_range show before after units count from grown =
    ap (map show) grown
    ∙ map-append show before (take count (drop from units))
    ∙ ap (λ xs. map show before ++ xs) (map-take show count (drop from units) ∙ ap (take count) (map-drop show from units))

-- units of a text have no origin
pub none-next : (place size : ℕ) → place < size → replicate {A = Option Origin} (size - place) None ≡ None ∷ replicate (size - (place + 1)) None
none-next place size below =
    let count : size - place ≡ suc (size - (place + 1)) = omega arith in
    ap (λ n. replicate {A = Option Origin} n None) count

-- one more numbered unit
pub numbered-next : (origin : ℕ → Origin) (from index size : ℕ) → index < size
    → numbered origin (from + index) (size - index) ≡ Some (origin (from + index)) ∷ numbered origin (from + (index + 1)) (size - (index + 1))
numbered-next origin from index size below =
    let count : size - index ≡ suc (size - (index + 1)) = omega arith in
    let there : (from + index) + 1 ≡ from + (index + 1) = omega arith in
    ap (numbered origin (from + index)) count
    ∙ ap (λ n. Some (origin (from + index)) ∷ numbered origin n (size - (index + 1))) there

-- one more operation
pub numbered_operation : (origin : ℕ → Origin) (origins : List (Option Origin)) (place start end inserted inserted_next count : ℕ) (operation : Operation) (later all : List Operation)
    (before middle after : List (Option Origin))
    → all ≡ operation ∷ later → start ≡ operation.offset → end ≡ end_of operation → count ≡ length operation.insert → inserted_next ≡ inserted + count
    → middle ≡ before ++ take (start - place) (drop place origins) → after ≡ middle ++ numbered origin inserted count
    → after ++ origins_of_pieces origin origins inserted_next (pieces_from end (length origins) later)
    ≡ before ++ origins_of_pieces origin origins inserted (pieces_from place (length origins) all)
numbered_operation origin origins place start end inserted inserted_next count operation later all before middle after split starts ends counts grows kept grown =
    let size = length operation.insert in
    let rest = origins_of_pieces origin origins (inserted + size) (pieces_from (end_of operation) (length origins) later) in
    let range = take (operation.offset - place) (drop place origins) in
    let new = numbered origin inserted size in
    ap (λ n. after ++ origins_of_pieces origin origins n (pieces_from end (length origins) later)) (grows ∙ ap (λ n. inserted + n) counts)
    ∙ ap (λ n. after ++ origins_of_pieces origin origins (inserted + size) (pieces_from n (length origins) later)) ends
    ∙ ap (λ xs. xs ++ rest) (grown ∙ ap (λ n. middle ++ numbered origin inserted n) counts ∙ ap (λ xs. xs ++ new) (kept ∙ ap (λ n. before ++ take (n - place) (drop place origins)) starts))
    ∙ append_assoc (before ++ range) new rest
    ∙ append_assoc before range (new ++ rest)
    ∙ ap (λ os. before ++ origins_of_pieces origin origins inserted (pieces_from place (length origins) os)) (sym split)

-- what stands behind the last operation
pub copied_end : {A : Type 0} (before after shown all : List A) (place size : ℕ) → length shown ≡ size
    → before ++ (take (length shown - place) (drop place shown) ++ []) ≡ all → after ≡ before ++ take (size - place) (drop place shown) → after ≡ all
copied_end before after shown all place size count is grown =
    grown
    ∙ ap (λ n. before ++ take (n - place) (drop place shown)) (sym count)
    ∙ ap (λ xs. before ++ xs) (sym (append-nil (take (length shown - place) (drop place shown))))
    ∙ is

-- more units
pub grown_length : {A : Type 0} (show : CopiedUnit → A) (before middle after range : List CopiedUnit) (new : List A)
    → middle ≡ before ++ range → map show after ≡ map show middle ++ new → length before + length new ≤ length after
grown_length show before middle after range new kept grown =
    omega (
      arith,
      ap length kept,
      length-append before range,
      ap length grown,
      length-append (map show middle) new,
      length-map middle show,
      length-map after show,
    )
