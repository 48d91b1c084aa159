-- The places that the origins of a merge name: those in the first patch rise, and those in the second one are all of them.
use Rattle.std.proofs.Common.{◌≡◌, ℕ, zero, suc, ◌+◌, ◌-◌, ◌<◌, ◌≤◌, None, Some, List, [], ◌∷◌, ◌++◌, length, map, take, drop, replicate, refl, sym, ◌∙◌, ap, subst, arith}
use Rattle.std.specs.Prelude.{Option, slice_get, slice_index}
use Rattle.std.specs.List.{filter_map, cons_option, range_with_len}
use Rattle.std.specs.List.Sorted.{IsStrictlyIncreasing}
use Rattle.std.proofs.lemmas.List.{append-nil, length-append, length-drop, map-append, take_all}
use Rattle.std.proofs.lemmas.List.Elements.{filter_map-append}
use Rattle.pad_patch.specs.declared.operation.Operation.{Operation}
use Rattle.pad_patch.specs.declared.patch.Patch.{Patch}
use Rattle.pad_patch.specs.Piece.{end_of, pieces_from, insertions, inserted}
use Rattle.pad_patch.proofs.CallerLemmas.{IsLaid, range-append, range-drop}
use Rattle.pad_merge.specs.declared.origin.Origin.{Origin}
use Rattle.pad_merge.specs.declared.origin.Origin.TheVariants.{First, Second}
use Rattle.pad_merge.specs.UnitSource.{UnitSource, kept_at, new_unit, IsAscending}
use Rattle.pad_merge.specs.Origin.{numbered, origins_after, origins, first_place, second_place}
use Rattle.pad_merge.proofs.Numbers.{origins_of_pieces, origins-pieces}
use Rattle.pad_merge.specs.Merge.{CanMerge}
use Rattle.pad_merge.proofs.Sources.{ascending_bounds, ascending_lower, ascending_append, ascending_split}
use Rattle.pad_merge.proofs.Both.{laid_second}
use Rattle.pad_merge.proofs.Named.{length-origins_first}

-- the origins that stand there
abbrev told : List (Option Origin) → List Origin
told found = filter_map (λ origin. origin) found

-- numbers that rise from `low` on
abbrev RiseFrom : ℕ → List ℕ → Type 0
RiseFrom low [] = Unit {0}
RiseFrom low (number ∷ numbers) = (low ≤ number) × RiseFrom (suc number) numbers

rise_lower : (low lower : ℕ) (numbers : List ℕ) → lower ≤ low → RiseFrom low numbers → RiseFrom lower numbers
rise_lower low lower [] order rises = tt
rise_lower low lower (number ∷ numbers) order rises = (omega (arith, rises.0), rises.1)

increasing : (low : ℕ) (numbers : List ℕ) (index : ℕ) → RiseFrom low numbers → index + 1 < length numbers → slice_index numbers index < slice_index numbers (index + 1)
increasing low [] index rises below = absurd (omega arith)
increasing low (number ∷ []) index rises below = absurd (omega arith)
increasing low (number ∷ next ∷ numbers) zero rises below = omega (arith, rises.1.0)
increasing low (number ∷ next ∷ numbers) (suc index) rises below =
    let there : suc index + 1 ≡ suc (index + 1) = omega arith in
    let smaller : index + 1 < length (next ∷ numbers) = omega arith in
    let P : ℕ → Type 0 = λ n. slice_index (next ∷ numbers) index < slice_index (number ∷ next ∷ numbers) n in
    subst P (sym there) (increasing (suc number) (next ∷ numbers) index rises.1 smaller)

rise_range : (low count : ℕ) → RiseFrom low (range_with_len low count)
rise_range low zero = tt
rise_range low (suc count) = (omega arith, rise_lower (low + 1) (suc low) (range_with_len (low + 1) count) (omega arith) (rise_range (low + 1) count))

-- what rises without its first element
record RisesBehind (low : ℕ) (numbers : List ℕ) : Type 0 where
  from : ℕ
  order : low ≤ from
  rises : RiseFrom from numbers

behind : (low : ℕ) (first : Option ℕ) (numbers : List ℕ) → RiseFrom low (cons_option first numbers) → RisesBehind low numbers
behind low None numbers rises = record { from = low; order = omega arith; rises = rises }
behind low (Some number) numbers rises = record { from = suc number; order = omega (arith, rises.0); rises = rises.1 }

-- a place that an origin names is no lower than where the places rise from
bound : (place : Origin → Option ℕ) (low index number : ℕ) (found : List Origin) (origin : Origin) → RiseFrom low (filter_map place found)
    → slice_get found index ≡ Some origin → place origin ≡ Some number → low ≤ number
bound place low index number [] origin rises is names = cc
bound place low zero number (first ∷ found) origin rises is names =
    let same : first ≡ origin = cc in
    let first_names : place first ≡ Some number = ap place same ∙ names in
    (subst (λ o. RiseFrom low (cons_option o (filter_map place found))) first_names rises).0
bound place low (suc index) number (first ∷ found) origin rises is names =
    let rest = behind low (place first) (filter_map place found) rises in
    omega (arith, rest.order, bound place rest.from index number found origin rest.rises is names)

-- where the places rise, an origin that names one stands once
once : (place : Origin → Option ℕ) (low index other number : ℕ) (found : List Origin) (origin : Origin) → RiseFrom low (filter_map place found)
    → place origin ≡ Some number → slice_get found index ≡ Some origin → slice_get found other ≡ Some origin → index ≡ other
once place low index other number [] origin rises names is also = cc
once place low zero zero number (first ∷ found) origin rises names is also = refl
once place low zero (suc other) number (first ∷ found) origin rises names is also =
    let same : first ≡ origin = cc in
    let first_names : place first ≡ Some number = ap place same ∙ names in
    let rest = subst (λ o. RiseFrom low (cons_option o (filter_map place found))) first_names rises in
    absurd (omega (arith, bound place (suc number) other number found origin rest.1 also names))
once place low (suc index) zero number (first ∷ found) origin rises names is also =
    let same : first ≡ origin = cc in
    let first_names : place first ≡ Some number = ap place same ∙ names in
    let rest = subst (λ o. RiseFrom low (cons_option o (filter_map place found))) first_names rises in
    absurd (omega (arith, bound place (suc number) index number found origin rest.1 is names))
once place low (suc index) (suc other) number (first ∷ found) origin rises names is also =
    let rest = behind low (place first) (filter_map place found) rises in
    ap suc (once place rest.from index other number found origin rest.rises names is also)

-- where a place stands, so does an origin that names it
record NamedBy (place : Origin → Option ℕ) (found : List Origin) (number : ℕ) : Type 0 where
  index : ℕ
  origin : Origin
  stands : slice_get found index ≡ Some origin
  names : place origin ≡ Some number

later_one : (place : Origin → Option ℕ) (first : Origin) (found : List Origin) (number : ℕ) → NamedBy place found number → NamedBy place (first ∷ found) number
later_one place first found number named = record { index = suc named.index; origin = named.origin; stands = named.stands; names = named.names }

named_first : (place : Origin → Option ℕ) (first : Origin) (found : List Origin) (number : ℕ) (shown : Option ℕ) → place first ≡ shown
    → ((index : ℕ) → slice_get (filter_map place found) index ≡ Some number → NamedBy place found number)
    → (index : ℕ) → slice_get (cons_option shown (filter_map place found)) index ≡ Some number → NamedBy place (first ∷ found) number
named_first place first found number None names rest index is = later_one place first found number (rest index is)
named_first place first found number (Some here) names rest zero is =
    let same : here ≡ number = cc in
    record { index = zero; origin = first; stands = refl; names = names ∙ ap Some same }
named_first place first found number (Some here) names rest (suc index) is = later_one place first found number (rest index is)

named_by : (place : Origin → Option ℕ) (found : List Origin) (index number : ℕ) → slice_get (filter_map place found) index ≡ Some number → NamedBy place found number
named_by place [] index number is = cc
named_by place (first ∷ found) index number is =
    named_first place first found number (place first) refl (λ later stands. named_by place found later number stands) index is

range_at : (from count index : ℕ) → index < count → slice_get (range_with_len from count) index ≡ Some (from + index)
range_at from zero index below = absurd (omega arith)
range_at from (suc count) zero below = let here : from ≡ from + 0 = omega arith in ap Some here
range_at from (suc count) (suc index) below =
    let there : from + 1 + index ≡ from + suc index = omega arith in
    range_at (from + 1) count index (omega arith) ∙ ap Some there

-- no origin is in the second patch
abbrev NoSecond : List (Option Origin) → Type 0
NoSecond [] = Unit {0}
NoSecond (None ∷ found) = NoSecond found
NoSecond (Some (First place) ∷ found) = NoSecond found
NoSecond (Some (Second place) ∷ found) = ⊥

no_second_take : (count : ℕ) (found : List (Option Origin)) → NoSecond found → NoSecond (take count found)
no_second_take zero found clean = tt
no_second_take (suc count) [] clean = tt
no_second_take (suc count) (None ∷ found) clean = no_second_take count found clean
no_second_take (suc count) (Some (First place) ∷ found) clean = no_second_take count found clean
no_second_take (suc count) (Some (Second place) ∷ found) clean = absurd clean

no_second_drop : (count : ℕ) (found : List (Option Origin)) → NoSecond found → NoSecond (drop count found)
no_second_drop zero found clean = clean
no_second_drop (suc count) [] clean = tt
no_second_drop (suc count) (None ∷ found) clean = no_second_drop count found clean
no_second_drop (suc count) (Some (First place) ∷ found) clean = no_second_drop count found clean
no_second_drop (suc count) (Some (Second place) ∷ found) clean = absurd clean

no_second_append : (found later : List (Option Origin)) → NoSecond found → NoSecond later → NoSecond (found ++ later)
no_second_append [] later clean rest = rest
no_second_append (None ∷ found) later clean rest = no_second_append found later clean rest
no_second_append (Some (First place) ∷ found) later clean rest = no_second_append found later clean rest
no_second_append (Some (Second place) ∷ found) later clean rest = absurd clean

no_second_first : (from count : ℕ) → NoSecond (numbered First from count)
no_second_first from zero = tt
no_second_first from (suc count) = no_second_first (from + 1) count

no_second_none : (count : ℕ) → NoSecond (replicate count None)
no_second_none zero = tt
no_second_none (suc count) = no_second_none count

no_second_copy : (found : List (Option Origin)) (at place size : ℕ) (operations : List Operation) → NoSecond found → NoSecond (origins_of_pieces First found at (pieces_from place size operations))
no_second_copy found at place size [] clean =
    no_second_append (take (size - place) (drop place found)) [] (no_second_take (size - place) (drop place found) (no_second_drop place found clean)) tt
no_second_copy found at place size (operation ∷ operations) clean =
    let start = operation.offset in
    let units = operation.insert in
    let rest = origins_of_pieces First found (at + length units) (pieces_from (end_of operation) size operations) in
    no_second_append (take (start - place) (drop place found)) (numbered First at (length units) ++ rest) (no_second_take (start - place) (drop place found) (no_second_drop place found clean))
    (no_second_append (numbered First at (length units)) rest (no_second_first at (length units)) (no_second_copy found (at + length units) (end_of operation) size operations clean))

-- the places in the second patch
abbrev seconds : List (Option Origin) → List ℕ
seconds found = filter_map second_place (told found)

seconds-append : (found later : List (Option Origin)) → seconds (found ++ later) ≡ seconds found ++ seconds later
seconds-append found later =
    ap (filter_map second_place) (filter_map-append (λ origin. origin) found later) ∙ filter_map-append second_place (told found) (told later)

seconds_none : (found : List (Option Origin)) → NoSecond found → seconds found ≡ []
seconds_none [] clean = refl
seconds_none (None ∷ found) clean = seconds_none found clean
seconds_none (Some (First place) ∷ found) clean = seconds_none found clean
seconds_none (Some (Second place) ∷ found) clean = absurd clean

seconds_numbered : (from count : ℕ) → seconds (numbered Second from count) ≡ range_with_len from count
seconds_numbered from zero = refl
seconds_numbered from (suc count) = ap (λ numbers. from ∷ numbers) (seconds_numbered (from + 1) count)

seconds_copy : (found : List (Option Origin)) (at place size : ℕ) (operations : List Operation) → NoSecond found
    → seconds (origins_of_pieces Second found at (pieces_from place size operations)) ≡ range_with_len at (length (insertions operations))
seconds_copy found at place size [] clean =
    seconds-append (take (size - place) (drop place found)) []
    ∙ append-nil (seconds (take (size - place) (drop place found)))
    ∙ seconds_none (take (size - place) (drop place found)) (no_second_take (size - place) (drop place found) (no_second_drop place found clean))
seconds_copy found at place size (operation ∷ operations) clean =
    let kept = take (operation.offset - place) (drop place found) in
    let units = operation.insert in
    let new = numbered Second at (length units) in
    let rest = origins_of_pieces Second found (at + length units) (pieces_from (end_of operation) size operations) in
    seconds-append kept (new ++ rest)
    ∙ ap (λ numbers. numbers ++ seconds (new ++ rest)) (seconds_none kept (no_second_take (operation.offset - place) (drop place found) (no_second_drop place found clean)))
    ∙ seconds-append new rest
    ∙ ap (λ numbers. numbers ++ seconds rest) (seconds_numbered at (length units))
    ∙ ap (λ numbers. range_with_len at (length units) ++ numbers) (seconds_copy found (at + length units) (end_of operation) size operations clean)
    ∙ range-append at (length units) (length (insertions operations))
    ∙ ap (range_with_len at) (sym (length-append units (insertions operations)))

pub seconds_all : (first second : Patch) (size : ℕ) → filter_map second_place (origins first second size) ≡ range_with_len 0 (length (inserted second))
unfolding origins
seconds_all first second size =
    let before = replicate size None in
    let found = origins_after First first before in
    ap seconds (origins-pieces Second second found)
    ∙ seconds_copy found 0 0 (length found) second.ops
    (subst NoSecond (sym (origins-pieces First first before)) (no_second_copy before 0 0 (length before) first.ops (no_second_none size)))

-- an origin in the first patch as a kept unit, so that what is known of kept units tells how places rise
abbrev shown : Option Origin → UnitSource
shown None = new_unit 0
shown (Some (First place)) = kept_at place
shown (Some (Second place)) = new_unit 0

rise_shown : (low high : ℕ) (found : List (Option Origin)) → IsAscending low high (map shown found) → RiseFrom low (filter_map first_place (told found))
rise_shown low high [] rises = tt
rise_shown low high (None ∷ found) rises = rise_shown low high found rises
rise_shown low high (Some (First place) ∷ found) rises = (rises.0, rise_shown (suc place) high found rises.1)
rise_shown low high (Some (Second place) ∷ found) rises = rise_shown low high found rises

ascending_first : (from count : ℕ) → IsAscending from (from + count) (map shown (numbered First from count))
ascending_first from zero = omega arith
ascending_first from (suc count) =
    let end : from + 1 + count ≡ from + suc count = omega arith in
    let next : from + 1 ≡ suc from = omega arith in (
      omega arith,
      subst (λ n. IsAscending n (from + suc count) (map shown (numbered First (from + 1) count))) next
          (subst (λ n. IsAscending (from + 1) n (map shown (numbered First (from + 1) count))) end (ascending_first (from + 1) count)),
    )

ascending_second : (low from count : ℕ) → IsAscending low low (map shown (numbered Second from count))
ascending_second low from zero = omega arith
ascending_second low from (suc count) = ascending_second low (from + 1) count

-- units of the text
abbrev AreNone : List (Option Origin) → Type 0
AreNone [] = Unit {0}
AreNone (None ∷ found) = AreNone found
AreNone (Some origin ∷ found) = ⊥

none_take : (count : ℕ) (found : List (Option Origin)) → AreNone found → AreNone (take count found)
none_take zero found clean = tt
none_take (suc count) [] clean = tt
none_take (suc count) (None ∷ found) clean = none_take count found clean
none_take (suc count) (Some origin ∷ found) clean = absurd clean

none_drop : (count : ℕ) (found : List (Option Origin)) → AreNone found → AreNone (drop count found)
none_drop zero found clean = clean
none_drop (suc count) [] clean = tt
none_drop (suc count) (None ∷ found) clean = none_drop count found clean
none_drop (suc count) (Some origin ∷ found) clean = absurd clean

none_all : (count : ℕ) → AreNone (replicate count None)
none_all zero = tt
none_all (suc count) = none_all count

ascending_none : (low : ℕ) (found : List (Option Origin)) → AreNone found → IsAscending low low (map shown found)
ascending_none low [] clean = omega arith
ascending_none low (None ∷ found) clean = ascending_none low found clean
ascending_none low (Some origin ∷ found) clean = absurd clean

shown_append : (low middle high : ℕ) (found later : List (Option Origin)) → IsAscending low middle (map shown found) → IsAscending middle high (map shown later) → IsAscending low high (map shown (found ++ later))
shown_append low middle high found later first second =
    subst (IsAscending low high) (sym (map-append shown found later)) (ascending_append low middle high (map shown found) (map shown later) first second)

-- the numbers of the first patch rise in the copy that it makes
first_copy : (found : List (Option Origin)) (at place size : ℕ) (operations : List Operation) → AreNone found
    → IsAscending at (at + length (insertions operations)) (map shown (origins_of_pieces First found at (pieces_from place size operations)))
first_copy found at place size [] clean =
    let kept = take (size - place) (drop place found) in
    let end : at ≡ at + 0 = omega arith in
    shown_append at at (at + 0) kept [] (ascending_none at kept (none_take (size - place) (drop place found) (none_drop place found clean))) (omega arith)
first_copy found at place size (operation ∷ operations) clean =
    let kept = take (operation.offset - place) (drop place found) in
    let units = operation.insert in
    let new = numbered First at (length units) in
    let rest = origins_of_pieces First found (at + length units) (pieces_from (end_of operation) size operations) in
    let high = at + length (units ++ insertions operations) in
    let end : at + length units + length (insertions operations) ≡ high = omega (arith, length-append units (insertions operations)) in
    shown_append at at high kept (new ++ rest) (ascending_none at kept (none_take (operation.offset - place) (drop place found) (none_drop place found clean)))
    (shown_append at (at + length units) high new rest (ascending_first at (length units))
    (subst (λ n. IsAscending (at + length units) n (map shown rest)) end (first_copy found (at + length units) (end_of operation) size operations clean)))

-- and the second patch keeps them in order
second_copy : (found : List (Option Origin)) (low high at place : ℕ) (operations : List Operation) → IsLaid place (length found) operations → IsAscending low high (map shown (drop place found))
    → IsAscending low high (map shown (origins_of_pieces Second found at (pieces_from place (length found) operations)))
second_copy found low high at place [] laid_out rises =
    let rest = drop place found in
    let all : take (length found - place) rest ++ [] ≡ rest =
    append-nil (take (length found - place) rest) ∙ take_all (length found - place) rest (omega (arith, length-drop place found)) in
    subst (λ os. IsAscending low high (map shown os)) (sym all) rises
second_copy found low high at place (operation ∷ operations) (starts, inside, rest) rises =
    let start = operation.offset in
    let end = end_of operation in
    let order : start ≤ end = omega arith in
    let units = operation.insert in
    let kept = take (start - place) (drop place found) in
    let removed = take (end - start) (drop start found) in
    let new = numbered Second at (length units) in
    let later = origins_of_pieces Second found (at + length units) (pieces_from end (length found) operations) in
    let head = ascending_split low high (map shown kept) (map shown (drop start found))
    (subst (IsAscending low high) (sym (ap (map shown) (range-drop place start found starts)) ∙ map-append shown kept (drop start found)) rises) in
    let middle = ascending_split head.middle high (map shown removed) (map shown (drop end found))
    (subst (IsAscending head.middle high) (sym (ap (map shown) (range-drop start end found order)) ∙ map-append shown removed (drop end found)) head.second) in
    let behind_it = ascending_lower middle.middle head.middle high (map shown (drop end found)) (ascending_bounds head.middle middle.middle (map shown removed) middle.first) middle.second in
    shown_append low head.middle high kept (new ++ later) head.first
    (shown_append head.middle head.middle high new later (ascending_second head.middle at (length units))
    (second_copy found head.middle high (at + length units) end operations rest behind_it))

firsts_rise : (first second : Patch) (size : ℕ) → CanMerge first second size → RiseFrom 0 (filter_map first_place (origins first second size))
unfolding origins
firsts_rise first second size can =
    let before = replicate size None in
    let found = origins_after First first before in
    let high = 0 + length (insertions first.ops) in
    let laid_out = subst (λ n. IsLaid 0 n second.ops) (length-origins_first first size) (laid_second first second size can) in
    rise_shown 0 high (origins_after Second second found)
    (subst (λ xs. IsAscending 0 high (map shown xs)) (sym (origins-pieces Second second found))
    (second_copy found 0 high 0 0 second.ops laid_out
    (subst (λ xs. IsAscending 0 high (map shown xs)) (sym (origins-pieces First first before)) (first_copy before 0 0 (length before) first.ops (none_all size)))))

pub firsts_increase : (first second : Patch) (size : ℕ) → CanMerge first second size → IsStrictlyIncreasing (filter_map first_place (origins first second size))
firsts_increase first second size can index below =
    increasing 0 (filter_map first_place (origins first second size)) index (firsts_rise first second size can) below

pub stands_once : (first second : Patch) (size : ℕ) → CanMerge first second size
    → (index other : ℕ) (origin : Origin) → slice_get (origins first second size) index ≡ Some origin → slice_get (origins first second size) other ≡ Some origin → index ≡ other
stands_once first second size can index other (First place) is also =
    once first_place 0 index other place (origins first second size) (First place) (firsts_rise first second size can) refl is also
stands_once first second size can index other (Second place) is also =
    once second_place 0 index other place (origins first second size) (Second place)
    (subst (RiseFrom 0) (sym (seconds_all first second size)) (rise_range 0 (length (inserted second)))) refl is also

-- an origin that names a place in the second patch is the one of that place
second_origin : (origin : Origin) (place : ℕ) → second_place origin ≡ Some place → origin ≡ Second place
second_origin (First here) place names = cc
second_origin (Second here) place names = let same : here ≡ place = cc in ap Second same

pub stands_of_second : (first second : Patch) (size place : ℕ) → place < length (inserted second) → (index : ℕ) × (slice_get (origins first second size) index ≡ Some (Second place))
stands_of_second first second size place below =
    let here : 0 + place ≡ place = omega arith in
    let stands = ap (λ numbers. slice_get numbers place) (seconds_all first second size) ∙ range_at 0 (length (inserted second)) place below ∙ ap Some here in
    let named = named_by second_place (origins first second size) place place stands in
    (named.index, named.stands ∙ ap Some (second_origin named.origin place named.names))
