-- Which insertion each inserted unit of a merge comes from.
use Rattle.std.specs.Prelude.{ℕ, Option, Some, None, List, length, map, replicate, slice_get, slice_index_or}
use Rattle.std.specs.List.{filter_map, range_with_len}
use Rattle.pad_patch.specs.declared.patch.Patch.{Patch}
use Rattle.pad_patch.specs.Piece.{inserted, patched}
use Rattle.pad_merge.specs.declared.origin.Origin.{Origin}
use Rattle.pad_merge.specs.declared.origin.Origin.TheVariants.{First, Second}

-- so many new units of one patch, numbered from a place on
abbrev pub numbered : (ℕ → Origin) → ℕ → ℕ → List (Option Origin)
numbered origin from count = map (λ place. Some (origin place)) (range_with_len from count)

-- the origins of the units after a patch of units that have these origins: a kept unit has the one that it had, and
-- new units are numbered from left to right
abbrev pub origins_after : (ℕ → Origin) → Patch → List (Option Origin) → List (Option Origin)
origins_after origin patch before = patched patch (numbered origin 0 (length (inserted patch))) before

-- the origins of the units that a merge of two patches of a text of `size` units inserts. A unit of the text has none
unfoldable pub origins : Patch → Patch → ℕ → List Origin
origins first second size = filter_map (λ origin. origin) (origins_after Second second (origins_after First first (replicate size None)))

-- the place in the first patch that an origin names
abbrev pub first_place : Origin → Option ℕ
first_place (First place) = Some place
first_place (Second place) = None

-- the place in the second patch that an origin names
abbrev pub second_place : Origin → Option ℕ
second_place (First place) = None
second_place (Second place) = Some place

-- the unit that an origin names, among all that its patch inserts
abbrev pub named_unit : Patch → Patch → Origin → Option ℕ
named_unit first second (First place) = slice_get (inserted first) place
named_unit first second (Second place) = slice_get (inserted second) place

-- the element of a unit that a merge inserts: the one that it has where it comes from, and `past` past the end
abbrev pub named_in : {A : Type 0} → A → List A → List A → Origin → A
named_in past first second (First place) = slice_index_or first place past
named_in past first second (Second place) = slice_index_or second place past
