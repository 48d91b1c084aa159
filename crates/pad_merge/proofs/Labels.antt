-- Copying a list by a merge is copying it by both patches in turn.
use Rattle.std.proofs.Common.{◌≡◌, ℕ, zero, suc, ◌+◌, ◌<◌, ◌⊎◌, inl, inr, None, Some, List, [], ◌∷◌, length, map, replicate, slice_index_or, refl, sym, ◌∙◌, ap, subst, arith}
use Rattle.std.specs.Prelude.{Option, slice_get}
use Rattle.std.specs.List.{filter_map, range_with_len}
use Rattle.std.specs.Option.{option_map}
use Rattle.std.proofs.lemmas.List.{length-map, length-replicate}
use Rattle.std.proofs.lemmas.List.FromFn.{length-range_with_len, length-map-range_with_len}
use Rattle.pad_patch.specs.declared.operation.Operation.{Operation}
use Rattle.pad_patch.specs.declared.patch.Patch.{Patch}
use Rattle.pad_patch.specs.Piece.{pieces, patched, patched_pieces, inserted, length_after}
use Rattle.pad_patch.specs.Removed.{Removes, IsKeptFrom, old_places}
use Rattle.pad_patch.proofs.CallerLemmas.{map-patched, map-map, somes_of, somes-patched, replicate-map, map-const, read_all, get-map, at_has, has_at, Has, has_map, removed_or_kept, kept_not_removed, kept_element, length-patched, same_length, laid, get-range, below_get, new_drawn, patched-drawn, read_drawn, drawn, Drawn}
use Rattle.pad_merge.specs.declared.origin.Origin.{Origin}
use Rattle.pad_merge.specs.declared.origin.Origin.TheVariants.{First, Second}
use Rattle.pad_merge.specs.UnitSource.{UnitSource, kept_at, new_unit, kept_from, sources_of, sources_after}
use Rattle.pad_merge.specs.Origin.{numbered, origins_after, origins, named_in}
use Rattle.pad_merge.specs.Merge.{merged, CanMerge}
use Rattle.pad_merge.proofs.Sources.{length-kept_from}
use Rattle.pad_merge.proofs.Named.{length-origins}
use Rattle.pad_merge.proofs.Fixed.{sources_of-merged}

-- where a unit after both patches comes from: from a place of the text, or from an insertion
abbrev Label : Type 0
Label = ℕ ⊎ Origin

abbrev places : ℕ → List Label
places size = map inl (range_with_len 0 size)

abbrev labels_of : (ℕ → Origin) → ℕ → List Label
labels_of origin count = map (λ place. inr (origin place)) (range_with_len 0 count)

-- the labels after both patches
abbrev both : Patch → Patch → ℕ → List Label
both first second size = patched second (labels_of Second (length (inserted second))) (patched first (labels_of First (length (inserted first))) (places size))

-- and after their merge
abbrev one : Patch → Patch → ℕ → List Label
one first second size = patched (merged first second size) (map inr (origins first second size)) (places size)

abbrev kind : Label → Option ℕ
kind (inl place) = Some place
kind (inr origin) = None

abbrev origin_of_label : Label → Option Origin
origin_of_label (inl place) = None
origin_of_label (inr origin) = Some origin

-- labels of the same kinds with the same origins in order are the same
same_labels : (xs ys : List Label) → map kind xs ≡ map kind ys → somes_of (map origin_of_label xs) ≡ somes_of (map origin_of_label ys) → xs ≡ ys
same_labels [] [] kinds found = refl
same_labels [] (y ∷ ys) kinds found = cc
same_labels (x ∷ xs) [] kinds found = cc
same_labels (inl p ∷ xs) (inl q ∷ ys) kinds found =
    let same : p ≡ q = cc in
    let rest : map kind xs ≡ map kind ys = cc in
    ap (λ n. inl n ∷ xs) same ∙ ap (λ zs. inl q ∷ zs) (same_labels xs ys rest found)
same_labels (inl p ∷ xs) (inr o ∷ ys) kinds found = let differ : Some p ≡ None = cc in cc
same_labels (inr o ∷ xs) (inl p ∷ ys) kinds found = let differ : None ≡ Some p = cc in cc
same_labels (inr o ∷ xs) (inr u ∷ ys) kinds found =
    let same : o ≡ u = cc in
    let rest : map kind xs ≡ map kind ys = cc in
    let later : somes_of (map origin_of_label xs) ≡ somes_of (map origin_of_label ys) = cc in
    ap (λ n. inr n ∷ xs) same ∙ ap (λ zs. inr u ∷ zs) (same_labels xs ys rest later)

source_kind : UnitSource → Option ℕ
source_kind (kept_at place) = Some place
source_kind (new_unit unit) = None

kinds_kept : (from count : ℕ) → map source_kind (kept_from from count) ≡ map Some (range_with_len from count)
unfolding source_kind
kinds_kept from zero = refl
kinds_kept from (suc count) =
    let next : from + 1 ≡ suc from = omega arith in
    ap (λ xs. Some from ∷ xs) (kinds_kept (suc from) count ∙ ap (λ n. map Some (range_with_len n count)) (sym next))

kinds_new : (units : List ℕ) → map source_kind (map new_unit units) ≡ replicate (length units) None
unfolding source_kind
kinds_new [] = refl
kinds_new (unit ∷ units) = ap (λ xs. None ∷ xs) (kinds_new units)

-- the kinds of sources after a patch
kinds_after : (patch : Patch) (sources : List UnitSource) → map source_kind (sources_after patch sources) ≡ patched patch (replicate (length (inserted patch)) None) (map source_kind sources)
kinds_after patch sources =
    map-patched source_kind patch (map new_unit (inserted patch)) sources ∙ ap (λ xs. patched patch xs (map source_kind sources)) (kinds_new (inserted patch))

kinds_of : (patch : Patch) (size : ℕ) → map source_kind (sources_of patch size) ≡ old_places patch size
kinds_of patch size = kinds_after patch (kept_from 0 size) ∙ ap (patched patch (replicate (length (inserted patch)) None)) (kinds_kept 0 size)

-- the old places after a merge are those after both patches
pub old_places-merged : (first second : Patch) (size : ℕ) → CanMerge first second size
    → old_places (merged first second size) size ≡ patched second (replicate (length (inserted second)) None) (old_places first size)
old_places-merged first second size can =
    sym (kinds_of (merged first second size) size)
    ∙ ap (map source_kind) (sources_of-merged first second size can)
    ∙ kinds_after second (sources_of first size)
    ∙ ap (patched second (replicate (length (inserted second)) None)) (kinds_of first size)

-- labels of new units have no place
no_kinds : (origin : ℕ → Origin) (count : ℕ) → map kind (labels_of origin count) ≡ replicate count None
no_kinds origin count =
    map-map kind (λ place. inr (origin place)) (range_with_len 0 count) ∙ replicate-map None (range_with_len 0 count) ∙ ap (λ n. replicate n None) (length-range_with_len 0 count)

kinds_places : (size : ℕ) → map kind (places size) ≡ map Some (range_with_len 0 size)
kinds_places size = map-map kind inl (range_with_len 0 size)

kinds_both : (first second : Patch) (size : ℕ) → map kind (both first second size) ≡ patched second (replicate (length (inserted second)) None) (old_places first size)
kinds_both first second size =
    let news = labels_of Second (length (inserted second)) in
    let firsts = labels_of First (length (inserted first)) in
    map-patched kind second news (patched first firsts (places size))
    ∙ ap (λ xs. patched second xs (map kind (patched first firsts (places size)))) (no_kinds Second (length (inserted second)))
    ∙ ap (patched second (replicate (length (inserted second)) None))
    (map-patched kind first firsts (places size)
    ∙ ap (λ xs. patched first xs (map kind (places size))) (no_kinds First (length (inserted first)))
    ∙ ap (patched first (replicate (length (inserted first)) None)) (kinds_places size))

kinds_one : (first second : Patch) (size : ℕ) → map kind (one first second size) ≡ old_places (merged first second size) size
kinds_one first second size =
    let both_patch = merged first second size in
    let found = origins first second size in
    map-patched kind both_patch (map inr found) (places size)
    ∙ ap (λ xs. patched both_patch xs (map kind (places size)))
    (map-map kind inr found ∙ replicate-map None found ∙ ap (λ n. replicate n None) (length-origins first second size))
    ∙ ap (patched both_patch (replicate (length (inserted both_patch)) None)) (kinds_places size)

-- the origins that labels show
origins_places : (size : ℕ) → map origin_of_label (places size) ≡ map (λ _. None) (range_with_len 0 size)
origins_places size = map-map origin_of_label inl (range_with_len 0 size)

nones : (size : ℕ) → map {B = Option Origin} (λ _. None) (range_with_len 0 size) ≡ replicate size None
nones size = replicate-map None (range_with_len 0 size) ∙ ap (λ n. replicate n None) (length-range_with_len 0 size)

origins_both : (first second : Patch) (size : ℕ) → map origin_of_label (both first second size) ≡ origins_after Second second (origins_after First first (replicate size None))
origins_both first second size =
    let seconds = labels_of Second (length (inserted second)) in
    let firsts = labels_of First (length (inserted first)) in
    map-patched origin_of_label second seconds (patched first firsts (places size))
    ∙ ap (λ xs. patched second xs (map origin_of_label (patched first firsts (places size)))) (map-map origin_of_label (λ place. inr (Second place)) (range_with_len 0 (length (inserted second))))
    ∙ ap (patched second (numbered Second 0 (length (inserted second))))
    (map-patched origin_of_label first firsts (places size)
    ∙ ap (λ xs. patched first xs (map origin_of_label (places size))) (map-map origin_of_label (λ place. inr (First place)) (range_with_len 0 (length (inserted first))))
    ∙ ap (patched first (numbered First 0 (length (inserted first)))) (origins_places size ∙ nones size))

origins_one : (first second : Patch) (size : ℕ) → somes_of (map origin_of_label (one first second size)) ≡ origins first second size
origins_one first second size =
    let both_patch = merged first second size in
    let found = origins first second size in
    ap somes_of
    (map-patched origin_of_label both_patch (map inr found) (places size)
    ∙ ap (λ xs. patched both_patch xs (map origin_of_label (places size))) (map-map origin_of_label inr found)
    ∙ ap (patched both_patch (map Some found)) (origins_places size))
    ∙ somes-patched both_patch found (range_with_len 0 size) (length-origins first second size)

-- the labels after a merge are those after both patches
labels-merged : (first second : Patch) (size : ℕ) → CanMerge first second size → one first second size ≡ both first second size
unfolding origins
labels-merged first second size can =
    same_labels (one first second size) (both first second size)
    (kinds_one first second size ∙ old_places-merged first second size can ∙ sym (kinds_both first second size))
    (origins_one first second size ∙ ap somes_of (sym (origins_both first second size)))

-- what is read off a label
abbrev read : {A : Type 0} → A → List A → List A → List A → Label → A
read past of_first of_second old (inl place) = slice_index_or old place past
read past of_first of_second old (inr origin) = named_in past of_first of_second origin

read_places : {A : Type 0} (past : A) (of_first of_second old : List A) → map (read past of_first of_second old) (places (length old)) ≡ old
read_places past of_first of_second old = map-map (read past of_first of_second old) inl (range_with_len 0 (length old)) ∙ read_all past old

pub patched-merged : {A : Type 0} (past : A) (first second : Patch) (of_first of_second old : List A) → CanMerge first second (length old) → length of_first ≡ length (inserted first) → length of_second ≡ length (inserted second)
    → patched (merged first second (length old)) (map (named_in past of_first of_second) (origins first second (length old))) old ≡ patched second of_second (patched first of_first old)
patched-merged past first second of_first of_second old can counted_first counted_second =
    let size = length old in
    let found = origins first second size in
    let both_patch = merged first second size in
    let see = read past of_first of_second old in
    let seconds = labels_of Second (length (inserted second)) in
    let firsts = labels_of First (length (inserted first)) in
    sym (map-patched see both_patch (map inr found) (places size)
    ∙ ap (λ xs. patched both_patch xs (map see (places size))) (map-map see inr found)
    ∙ ap (patched both_patch (map (named_in past of_first of_second) found)) (read_places past of_first of_second old))
    ∙ ap (map see) (labels-merged first second size can)
    ∙ map-patched see second seconds (patched first firsts (places size))
    ∙ ap (λ xs. patched second xs (map see (patched first firsts (places size))))
    (map-map see (λ place. inr (Second place)) (range_with_len 0 (length (inserted second))) ∙ ap (λ n. map (λ place. slice_index_or of_second place past) (range_with_len 0 n)) (sym counted_second) ∙ read_all past of_second)
    ∙ ap (patched second of_second)
    (map-patched see first firsts (places size)
    ∙ ap (λ xs. patched first xs (map see (places size)))
    (map-map see (λ place. inr (First place)) (range_with_len 0 (length (inserted first))) ∙ ap (λ n. map (λ place. slice_index_or of_first place past) (range_with_len 0 n)) (sym counted_first) ∙ read_all past of_first)
    ∙ ap (patched first of_first) (read_places past of_first of_second old))
