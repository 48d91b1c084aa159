-- Where the units of a copy come from: from a place of the text, or from an insertion.
use Rattle.std.specs.Prelude.{ℕ, zero, suc, ◌≤◌, List, [], ◌∷◌, map, slice_index}
use Rattle.pad_patch.specs.declared.patch.Patch.{Patch}
use Rattle.pad_patch.specs.Piece.{inserted, patched}

-- where one unit of a copy comes from
pub data UnitSource : Type 0 where
  -- the unit of the text at this place
  kept_at : (place : ℕ) → UnitSource
  -- this new unit
  new_unit : (unit : ℕ) → UnitSource

-- so many units of the text, from a place on
abbrev pub kept_from : ℕ → ℕ → List UnitSource
kept_from place zero = []
kept_from place (suc count) = kept_at place ∷ kept_from (suc place) count

-- the sources of the units after a patch of units that have these sources
abbrev pub sources_after : Patch → List UnitSource → List UnitSource
sources_after patch sources = patched patch (map new_unit (inserted patch)) sources

-- the sources of the units after a patch of a text of `size` units
abbrev pub sources_of : Patch → ℕ → List UnitSource
sources_of patch size = sources_after patch (kept_from 0 size)

-- the unit that a source stands for in a text
abbrev pub unit_of : List ℕ → UnitSource → ℕ
unit_of text (kept_at place) = slice_index text place
unit_of text (new_unit unit) = unit

-- the places of kept units rise from `low` on, and stay below `high`
abbrev pub IsAscending : ℕ → ℕ → List UnitSource → Type 0
IsAscending low high [] = low ≤ high
IsAscending low high (kept_at place ∷ sources) = (low ≤ place) × IsAscending (suc place) high sources
IsAscending low high (new_unit unit ∷ sources) = IsAscending low high sources
