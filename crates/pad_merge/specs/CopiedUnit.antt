-- What the units of a copy show: where each comes from, and which insertion brought it.
use Rattle.std.specs.Prelude.{ℕ, Option, Some, None}
use Rattle.pad_merge.specs.declared.origin.Origin.{Origin}
use Rattle.pad_merge.specs.declared.origin.Origin.TheVariants.{First, Second}
use Rattle.pad_merge.specs.declared.side.Side.{Side}
use Rattle.pad_merge.specs.declared.side.Side.TheVariants.{Earlier, Later}
use Rattle.pad_merge.specs.declared.copied_unit.CopiedUnit.{CopiedUnit}
use Rattle.pad_merge.specs.declared.copied_unit.CopiedUnit.TheVariants.{Kept, New}
use Rattle.pad_merge.specs.UnitSource.{UnitSource, kept_at, new_unit}

-- the unit's source
abbrev pub source_of : CopiedUnit → UnitSource
source_of (Kept place) = kept_at place
source_of (New unit origin) = new_unit unit

-- the unit's origin, if it is new
abbrev pub origin_of : CopiedUnit → Option Origin
origin_of (Kept place) = None
origin_of (New unit origin) = Some origin

-- the origin of a unit at a place among all that one of the two patches inserts
abbrev pub origin_in : Side → ℕ → Origin
origin_in Earlier place = First place
origin_in Later place = Second place

-- a new unit as it is, and a letter for a kept one, which is in no pair
abbrev pub new_or_letter : UnitSource → ℕ
new_or_letter (kept_at place) = 0x61
new_or_letter (new_unit unit) = unit
