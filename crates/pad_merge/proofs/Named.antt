-- Origins name the units that a merge inserts.
use Rattle.std.proofs.Common.{◌≡◌, ℕ, zero, suc, ◌+◌, ◌-◌, None, Some, List, [], ◌∷◌, ◌++◌, length, map, take, drop, replicate, refl, sym, ◌∙◌, ap, subst, append_assoc}
use Rattle.std.specs.Prelude.{Option, slice_get}
use Rattle.std.specs.List.{flat_map, filter_map}
use Rattle.std.specs.Option.{option_map}
use Rattle.std.proofs.lemmas.List.{append-nil, length-append, length-map}
use Rattle.std.proofs.lemmas.Option.{slice_get-map}
use Rattle.std.proofs.lemmas.Grind.{flat_map-append}
use Rattle.pad_patch.specs.declared.operation.Operation.{Operation}
use Rattle.pad_patch.specs.declared.patch.Patch.{Patch}
use Rattle.pad_patch.specs.Piece.{end_of, pieces, pieces_from, insertions, inserted}
use Rattle.pad_merge.specs.declared.origin.Origin.{Origin}
use Rattle.pad_merge.specs.declared.origin.Origin.TheVariants.{First, Second}
use Rattle.pad_merge.specs.UnitSource.{UnitSource, kept_at, new_unit, kept_from, sources_of, sources_after}
use Rattle.pad_merge.specs.Origin.{numbered, origins_after, origins, named_unit}
use Rattle.pad_merge.proofs.Numbers.{origins_of_pieces, origins-pieces}
use Rattle.pad_merge.specs.Merge.{gap, operations_between, merged}
use Rattle.pad_merge.proofs.Reading.{none, one, gap_cases}
use Rattle.pad_merge.proofs.Sources.{sources_of_piece, sources-pieces}

-- each new unit has an origin, which names it, and no kept unit has one
abbrev Names : (Origin → Option ℕ) → List UnitSource → List (Option Origin) → Type 0
Names name [] [] = Unit {0}
Names name [] (origin ∷ found) = ⊥
Names name (source ∷ sources) [] = ⊥
Names name (kept_at place ∷ sources) (None ∷ found) = Names name sources found
Names name (kept_at place ∷ sources) (Some origin ∷ found) = ⊥
Names name (new_unit unit ∷ sources) (None ∷ found) = ⊥
Names name (new_unit unit ∷ sources) (Some origin ∷ found) = (name origin ≡ Some unit) × Names name sources found

names_take : (name : Origin → Option ℕ) (count : ℕ) (sources : List UnitSource) (found : List (Option Origin)) → Names name sources found → Names name (take count sources) (take count found)
names_take name zero sources found named = tt
names_take name (suc count) [] [] named = tt
names_take name (suc count) [] (origin ∷ found) named = absurd named
names_take name (suc count) (source ∷ sources) [] named = absurd named
names_take name (suc count) (kept_at place ∷ sources) (None ∷ found) named = names_take name count sources found named
names_take name (suc count) (kept_at place ∷ sources) (Some origin ∷ found) named = absurd named
names_take name (suc count) (new_unit unit ∷ sources) (None ∷ found) named = absurd named
names_take name (suc count) (new_unit unit ∷ sources) (Some origin ∷ found) named = (named.0, names_take name count sources found named.1)

names_drop : (name : Origin → Option ℕ) (count : ℕ) (sources : List UnitSource) (found : List (Option Origin)) → Names name sources found → Names name (drop count sources) (drop count found)
names_drop name zero sources found named = named
names_drop name (suc count) [] [] named = tt
names_drop name (suc count) [] (origin ∷ found) named = absurd named
names_drop name (suc count) (source ∷ sources) [] named = absurd named
names_drop name (suc count) (kept_at place ∷ sources) (None ∷ found) named = names_drop name count sources found named
names_drop name (suc count) (kept_at place ∷ sources) (Some origin ∷ found) named = absurd named
names_drop name (suc count) (new_unit unit ∷ sources) (None ∷ found) named = absurd named
names_drop name (suc count) (new_unit unit ∷ sources) (Some origin ∷ found) named = names_drop name count sources found named.1

names_append : (name : Origin → Option ℕ) (sources others : List UnitSource) (found later : List (Option Origin)) → Names name sources found → Names name others later → Names name (sources ++ others) (found ++ later)
names_append name [] others [] later named rest = rest
names_append name [] others (origin ∷ found) later named rest = absurd named
names_append name (source ∷ sources) others [] later named rest = absurd named
names_append name (kept_at place ∷ sources) others (None ∷ found) later named rest = names_append name sources others found later named rest
names_append name (kept_at place ∷ sources) others (Some origin ∷ found) later named rest = absurd named
names_append name (new_unit unit ∷ sources) others (None ∷ found) later named rest = absurd named
names_append name (new_unit unit ∷ sources) others (Some origin ∷ found) later named rest = (named.0, names_append name sources others found later named.1 rest)

names_length : (name : Origin → Option ℕ) (sources : List UnitSource) (found : List (Option Origin)) → Names name sources found → length sources ≡ length found
names_length name [] [] named = refl
names_length name [] (origin ∷ found) named = absurd named
names_length name (source ∷ sources) [] named = absurd named
names_length name (kept_at place ∷ sources) (None ∷ found) named = ap suc (names_length name sources found named)
names_length name (kept_at place ∷ sources) (Some origin ∷ found) named = absurd named
names_length name (new_unit unit ∷ sources) (None ∷ found) named = absurd named
names_length name (new_unit unit ∷ sources) (Some origin ∷ found) named = ap suc (names_length name sources found named.1)

names_kept : (name : Origin → Option ℕ) (place count : ℕ) → Names name (kept_from place count) (replicate count None)
names_kept name place zero = tt
names_kept name place (suc count) = names_kept name (suc place) count

-- the unit behind others
unit_behind : (front : List ℕ) (unit : ℕ) (later : List ℕ) → slice_get (front ++ (unit ∷ later)) (length front) ≡ Some unit
unit_behind [] unit later = refl
unit_behind (first ∷ front) unit later = unit_behind front unit later

-- numbers name a patch's units, where so many stand before them
names_numbered : (name : Origin → Option ℕ) (number : ℕ → Origin) (all front units later : List ℕ) → ((place : ℕ) → name (number place) ≡ slice_get all place)
    → all ≡ front ++ (units ++ later) → Names name (map new_unit units) (numbered number (length front) (length units))
names_numbered name number all front [] later told whole = tt
names_numbered name number all front (unit ∷ units) later told whole =
    let next : all ≡ (front ++ unit ∷ []) ++ (units ++ later) = whole ∙ sym (append_assoc front (unit ∷ []) (units ++ later)) in
    let count : length (front ++ unit ∷ []) ≡ length front + 1 = length-append front (unit ∷ []) in (
      told (length front) ∙ ap (λ us. slice_get us (length front)) whole ∙ unit_behind front unit (units ++ later),
      subst (λ n. Names name (map new_unit units) (numbered number n (length units))) count (names_numbered name number all (front ++ unit ∷ []) units later told next),
    )

-- and so they do in a copy
names_copy : (name : Origin → Option ℕ) (number : ℕ → Origin) (all front : List ℕ) (sources : List UnitSource) (found : List (Option Origin)) (place size : ℕ) (operations : List Operation)
    → ((place : ℕ) → name (number place) ≡ slice_get all place) → all ≡ front ++ insertions operations → Names name sources found
    → Names name (flat_map (sources_of_piece sources) (pieces_from place size operations)) (origins_of_pieces number found (length front) (pieces_from place size operations))
names_copy name number all front sources found place size [] told whole named =
    names_append name (take (size - place) (drop place sources)) [] (take (size - place) (drop place found)) []
    (names_take name (size - place) (drop place sources) (drop place found) (names_drop name place sources found named)) tt
names_copy name number all front sources found place size (operation ∷ operations) told whole named =
    let start = operation.offset in
    let units = operation.insert in
    let rest = pieces_from (end_of operation) size operations in
    let next : all ≡ (front ++ units) ++ insertions operations = whole ∙ sym (append_assoc front units (insertions operations)) in
    let later = subst (λ n. Names name (flat_map (sources_of_piece sources) rest) (origins_of_pieces number found n rest)) (length-append front units)
    (names_copy name number all (front ++ units) sources found (end_of operation) size operations told next named) in
    names_append name (take (start - place) (drop place sources)) (map new_unit units ++ flat_map (sources_of_piece sources) rest)
    (take (start - place) (drop place found)) (numbered number (length front) (length units) ++ origins_of_pieces number found (length front + length units) rest)
    (names_take name (start - place) (drop place sources) (drop place found) (names_drop name place sources found named))
    (names_append name (map new_unit units) (flat_map (sources_of_piece sources) rest) (numbered number (length front) (length units)) (origins_of_pieces number found (length front + length units) rest)
    (names_numbered name number all front units (insertions operations) told whole) later)

-- the origins after a patch name the new units after it
names_after : (name : Origin → Option ℕ) (number : ℕ → Origin) (patch : Patch) (sources : List UnitSource) (found : List (Option Origin))
    → ((place : ℕ) → name (number place) ≡ slice_get (inserted patch) place) → Names name sources found
    → Names name (sources_after patch sources) (origins_after number patch found)
names_after name number patch sources found told named =
    subst (λ xs. Names name xs (origins_after number patch found)) (sym (sources-pieces patch sources))
    (subst (λ xs. Names name (flat_map (sources_of_piece sources) (pieces patch (length sources))) xs) (sym (origins-pieces number patch found))
    (subst (λ n. Names name (flat_map (sources_of_piece sources) (pieces patch (length sources))) (origins_of_pieces number found 0 (pieces patch n))) (names_length name sources found named)
    (names_copy name number (inserted patch) [] sources found 0 (length sources) patch.ops told refl named)))

names_first : (first second : Patch) (size : ℕ) → Names (named_unit first second) (sources_of first size) (origins_after First first (replicate size None))
names_first first second size =
    names_after (named_unit first second) First first (kept_from 0 size) (replicate size None) (λ place. refl) (names_kept (named_unit first second) 0 size)

-- there are as many of them as units after the first patch
pub length-origins_first : (first : Patch) (size : ℕ) → length (sources_of first size) ≡ length (origins_after First first (replicate size None))
length-origins_first first size =
    names_length (named_unit first first) (sources_of first size) (origins_after First first (replicate size None)) (names_first first first size)

-- those after both patches of a merge
names_both : (first second : Patch) (size : ℕ)
    → Names (named_unit first second) (sources_after second (sources_of first size)) (origins_after Second second (origins_after First first (replicate size None)))
names_both first second size =
    names_after (named_unit first second) Second second (sources_of first size) (origins_after First first (replicate size None)) (λ place. refl)
    (names_first first second size)

-- the new units of a copy
abbrev new_of : List UnitSource → List ℕ
new_of [] = []
new_of (kept_at place ∷ sources) = new_of sources
new_of (new_unit unit ∷ sources) = unit ∷ new_of sources

names_new : (name : Origin → Option ℕ) (sources : List UnitSource) (found : List (Option Origin)) → Names name sources found → map name (filter_map (λ origin. origin) found) ≡ map Some (new_of sources)
names_new name [] [] named = refl
names_new name [] (origin ∷ found) named = absurd named
names_new name (source ∷ sources) [] named = absurd named
names_new name (kept_at place ∷ sources) (None ∷ found) named = names_new name sources found named
names_new name (kept_at place ∷ sources) (Some origin ∷ found) named = absurd named
names_new name (new_unit unit ∷ sources) (None ∷ found) named = absurd named
names_new name (new_unit unit ∷ sources) (Some origin ∷ found) named =
    ap (λ u. u ∷ map name (filter_map (λ origin. origin) found)) named.0 ∙ ap (λ us. Some unit ∷ us) (names_new name sources found named.1)

insertions_gap : (from to : ℕ) (units : List ℕ) → insertions (gap from to units) ≡ units
insertions_gap from to units = elim (gap_cases from to units) [
  | none same nothing is ↦ ap insertions is ∙ sym nothing
  | one some is ↦ ap insertions is ∙ append-nil units
]

-- the operations that are read off insert the new units
insertions_between : (place : ℕ) (units : List ℕ) (size : ℕ) (sources : List UnitSource) → insertions (operations_between place units size sources) ≡ units ++ new_of sources
insertions_between place units size [] = insertions_gap place size units ∙ sym (append-nil units)
insertions_between place units size (kept_at at ∷ sources) =
    flat_map-append (λ (operation : Operation). operation.insert) (gap place at units) (operations_between (suc at) [] size sources)
    ∙ ap (λ us. us ++ insertions (operations_between (suc at) [] size sources)) (insertions_gap place at units)
    ∙ ap (λ us. units ++ us) (insertions_between (suc at) [] size sources)
insertions_between place units size (new_unit unit ∷ sources) =
    insertions_between place (units ++ unit ∷ []) size sources ∙ append_assoc units (unit ∷ []) (new_of sources)

inserted_merged : (first second : Patch) (size : ℕ) → inserted (merged first second size) ≡ new_of (sources_after second (sources_of first size))
unfolding merged
inserted_merged first second size = insertions_between 0 [] size (sources_after second (sources_of first size))

-- the origins name all units that a merge inserts
pub named_all : (first second : Patch) (size : ℕ) → map (named_unit first second) (origins first second size) ≡ map Some (inserted (merged first second size))
unfolding origins
named_all first second size =
    names_new (named_unit first second) (sources_after second (sources_of first size)) (origins_after Second second (origins_after First first (replicate size None))) (names_both first second size)
    ∙ ap (map Some) (sym (inserted_merged first second size))

pub length-origins : (first second : Patch) (size : ℕ) → length (origins first second size) ≡ length (inserted (merged first second size))
length-origins first second size =
    sym (length-map (origins first second size) (named_unit first second)) ∙ ap length (named_all first second size) ∙ length-map (inserted (merged first second size)) Some

-- a unit that is named is there
unit_there : (named : Option ℕ) (found : Option ℕ) → Some named ≡ option_map Some found → (unit : ℕ) × (named ≡ Some unit) × (found ≡ Some unit)
unit_there named None is = cc
unit_there named (Some unit) is = let same : named ≡ Some unit = cc in (unit, same, refl)

pub named_at : (first second : Patch) (size index : ℕ) (origin : Origin) → slice_get (origins first second size) index ≡ Some origin
    → (unit : ℕ) × (named_unit first second origin ≡ Some unit) × (slice_get (inserted (merged first second size)) index ≡ Some unit)
named_at first second size index origin is =
    unit_there (named_unit first second origin) (slice_get (inserted (merged first second size)) index)
    (ap (option_map (named_unit first second)) (sym is)
    ∙ sym (slice_get-map (named_unit first second) (origins first second size) index)
    ∙ ap (λ us. slice_get us index) (named_all first second size)
    ∙ slice_get-map Some (inserted (merged first second size)) index)
