-- One patch that does what one patch and then another one do.
use Rattle.std.specs.Prelude.{◌≡◌, ℕ, suc, ◌+◌, ◌-◌, ◌<◌, ◌⊎◌, ◌==◌, Some, IsTrue, List, [], ◌∷◌, ◌++◌, length, slice_get, if◌then◌else◌}
use Rattle.std.specs.Char.Utf16.{is_high_surrogate, is_low_surrogate}
use Rattle.pad_patch.specs.declared.operation.Operation.{Operation}
use Rattle.pad_patch.specs.declared.patch.Patch.{Patch}
use Rattle.pad_patch.specs.Piece.{end_of, length_after}
use Rattle.pad_patch.specs.Misfit.{HasOperation, Overlaps, EndsAfter}
use Rattle.pad_merge.specs.UnitSource.{UnitSource, kept_at, new_unit, sources_of, sources_after}

-- the operation that puts new units in place of those from one place to another; none where both are none
abbrev pub gap : ℕ → ℕ → List ℕ → List Operation
gap from to [] = if from == to then [] else record { offset = from; remove = to - from; insert = [] } ∷ []
gap from to (unit ∷ units) = record { offset = from; remove = to - from; insert = unit ∷ units } ∷ []

-- one operation for each gap between kept units that do not continue each other,
-- where `place` is behind the last kept unit, and so many units were new since
abbrev pub operations_between : ℕ → List ℕ → ℕ → List UnitSource → List Operation
operations_between place inserted size [] = gap place size inserted
operations_between place inserted size (kept_at at ∷ sources) = gap place at inserted ++ operations_between (suc at) [] size sources
operations_between place inserted size (new_unit unit ∷ sources) = operations_between place (inserted ++ unit ∷ []) size sources

-- the merge of two patches, of a text of `size` units
unfoldable pub merged : Patch → Patch → ℕ → Patch
merged first second size = record { ops = operations_between 0 [] size (sources_after second (sources_of first size)); before = first.before }

-- a patch is in normal form: no two operations touch, and none is empty
pub record IsNormal (patch : Patch) : Type 0 where
  pub untouched : (index : ℕ) (earlier later : Operation) → HasOperation patch index earlier → HasOperation patch (index + 1) later → end_of earlier < later.offset
  pub needed : (index : ℕ) (operation : Operation) → HasOperation patch index operation → (0 < operation.remove) ⊎ (0 < length operation.insert)

-- the place stands between two new units that are a pair
pub record CutsNewPair (sources : List UnitSource) (place : ℕ) : Type 0 where
  pub before : ℕ
  pub follows : place ≡ before + 1
  pub first : ℕ
  pub second : ℕ
  pub first_stands : slice_get sources before ≡ Some (new_unit first)
  pub second_stands : slice_get sources place ≡ Some (new_unit second)
  pub high : IsTrue (is_high_surrogate first)
  pub low : IsTrue (is_low_surrogate second)

-- the place stands between the two units of a pair that the patch inserts, as they stand after it
abbrev pub CutsInserted : Patch → ℕ → ℕ → Type 0
CutsInserted patch size place = CutsNewPair (sources_of patch size) place

-- two patches can be merged: the first one on a text of `size` units, and the second one on the text after it
pub record CanMerge (first second : Patch) (size : ℕ) : Type 0 where
  pub first_ordered : (index : ℕ) → ¬ (Overlaps first index)
  pub first_inside : (index : ℕ) → ¬ (EndsAfter first size index)
  pub second_ordered : (index : ℕ) → ¬ (Overlaps second index)
  pub second_inside : (index : ℕ) → ¬ (EndsAfter second (length_after first size) index)
  pub starts_whole : (index : ℕ) (operation : Operation) → HasOperation second index operation → ¬ (CutsInserted first size operation.offset)
  pub ends_whole : (index : ℕ) (operation : Operation) → HasOperation second index operation → ¬ (CutsInserted first size (end_of operation))

-- an operation has the range of the one that takes another back, where those before it have inserted and removed so many
-- units: it stands there, removes as many units as the other inserts, and inserts as many as it removes
pub record IsTurned (inserted removed : ℕ) (operation back : Operation) : Type 0 where
  pub starts : back.offset ≡ operation.offset + inserted - removed
  pub removes : back.remove ≡ length operation.insert
  pub inserts : length back.insert ≡ operation.remove

-- the operations have the ranges of those that take others back
abbrev pub AreTurned : ℕ → ℕ → List Operation → List Operation → Type 0
AreTurned inserted removed [] [] = Unit {0}
AreTurned inserted removed [] (back ∷ backs) = ⊥
AreTurned inserted removed (operation ∷ operations) [] = ⊥
AreTurned inserted removed (operation ∷ operations) (back ∷ backs) =
    IsTurned inserted removed operation back × AreTurned (inserted + length operation.insert) (removed + operation.remove) operations backs

-- two patches can be merged where `back` has just taken the first one back: it has the ranges of the first one's inverse
pub record CanMergeBack (first back second : Patch) (size : ℕ) : Type 0 where
  pub merges : CanMerge first second size
  pub turned : AreTurned 0 0 first.ops back.ops
