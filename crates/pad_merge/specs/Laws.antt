-- What holds of the merge of any two patches.
use Rattle.std.specs.Prelude.{◌≡◌, ℕ, ◌<◌, ◌⊎◌, ◌↔◌, Some, List, [], All, length, map, slice_get}
use Rattle.std.specs.List.{filter_map, range_with_len}
use Rattle.std.specs.List.Sorted.{IsStrictlyIncreasing}
use Rattle.pad_text.specs.Text.{IsText}
use Rattle.pad_patch.specs.declared.operation.Operation.{Operation}
use Rattle.pad_patch.specs.declared.patch.Patch.{Patch}
use Rattle.pad_patch.specs.Piece.{text_after, inserted, patched}
use Rattle.pad_patch.specs.Removed.{Removes, IsKeptFrom}
use Rattle.pad_patch.specs.Misfit.{HasOperation, Overlaps, EndsAfter, CanApply}
use Rattle.pad_patch.specs.Inverse.{inverse}
use Rattle.pad_merge.specs.declared.origin.Origin.{Origin}
use Rattle.pad_merge.specs.declared.origin.Origin.TheVariants.{First, Second}
use Rattle.pad_merge.specs.UnitSource.{sources_of, sources_after}
use Rattle.pad_merge.specs.Origin.{origins, named_unit, named_in, first_place, second_place}
use Rattle.pad_merge.specs.Merge.{merged, CanMerge, IsNormal}

-- patches that can be applied to a text one after the other can be merged
abbrev pub AppliedPatchesMerge : Type 0
AppliedPatchesMerge =
    (first second : Patch) (text : List ℕ) → CanApply first text → CanApply second (text_after first text) → CanMerge first second (length text)

-- and so can their merge be applied to it
abbrev pub MergedApplies : Type 0
MergedApplies =
    (first second : Patch) (text : List ℕ) → CanApply first text → CanApply second (text_after first text) → CanApply (merged first second (length text)) text

-- the units after a merge have the sources of the units after both patches in turn
abbrev pub MergedHasSources : Type 0
MergedHasSources =
    (first second : Patch) (size : ℕ) → CanMerge first second size → sources_of (merged first second size) size ≡ sources_after second (sources_of first size)

-- and no other patch in normal form has them: it is fixed by the sources of the units after it
abbrev pub SourcesFixNormal : Type 0
SourcesFixNormal =
    (first second : Patch) (size : ℕ) → IsNormal first → ((index : ℕ) → ¬ (EndsAfter first size index)) → IsNormal second → ((index : ℕ) → ¬ (EndsAfter second size index))
    → sources_of first size ≡ sources_of second size → first.ops ≡ second.ops

-- a patch without operations adds nothing in front of one in normal form
abbrev pub EmptyFirst : Type 0
EmptyFirst =
    (first second : Patch) (size : ℕ) → first.ops ≡ [] → IsNormal second → ((index : ℕ) → ¬ (EndsAfter second size index)) → (merged first second size).ops ≡ second.ops

-- a patch without operations adds nothing behind one in normal form
abbrev pub EmptySecond : Type 0
EmptySecond =
    (first second : Patch) (size : ℕ) → second.ops ≡ [] → IsNormal first → ((index : ℕ) → ¬ (EndsAfter first size index)) → (merged first second size).ops ≡ first.ops

-- insertions that are taken back leave no operation
abbrev pub InsertionsTakenBack : Type 0
InsertionsTakenBack =
    (patch : Patch) (text : List ℕ) → ((index : ℕ) → ¬ (Overlaps patch index)) → ((index : ℕ) → ¬ (EndsAfter patch (length text) index))
    → ((index : ℕ) (operation : Operation) → HasOperation patch index operation → operation.remove ≡ 0)
    → (merged patch (inverse patch text) (length text)).ops ≡ []

-- a patch in normal form is in order
abbrev pub NormalIsOrdered : Type 0
NormalIsOrdered = (patch : Patch) → IsNormal patch → (index : ℕ) → ¬ (Overlaps patch index)

-- there is one origin for each unit that a merge inserts
abbrev pub OneOriginEach : Type 0
OneOriginEach = (first second : Patch) (size : ℕ) → length (origins first second size) ≡ length (inserted (merged first second size))

-- an origin names the unit that the merge inserts in its place
abbrev pub OriginsNameUnits : Type 0
OriginsNameUnits =
    (first second : Patch) (size index : ℕ) (origin : Origin) → slice_get (origins first second size) index ≡ Some origin
    → (unit : ℕ) × (named_unit first second origin ≡ Some unit) × (slice_get (inserted (merged first second size)) index ≡ Some unit)

-- no origin stands twice
abbrev pub NoOriginTwice : Type 0
NoOriginTwice =
    (first second : Patch) (size : ℕ) → CanMerge first second size
    → (index other : ℕ) (origin : Origin) → slice_get (origins first second size) index ≡ Some origin → slice_get (origins first second size) other ≡ Some origin → index ≡ other

-- the places in the first patch rise: a merge keeps the order of the units that it keeps of it
abbrev pub FirstPlacesRise : Type 0
FirstPlacesRise =
    (first second : Patch) (size : ℕ) → CanMerge first second size → IsStrictlyIncreasing (filter_map first_place (origins first second size))

-- the places in the second patch are all that there are, in order: a merge keeps every unit that the second patch inserts
abbrev pub SecondStandsWhole : Type 0
SecondStandsWhole =
    (first second : Patch) (size : ℕ) → filter_map second_place (origins first second size) ≡ range_with_len 0 (length (inserted second))

-- and each of them is the place of an origin
abbrev pub EachOfSecondStands : Type 0
EachOfSecondStands =
    (first second : Patch) (size place : ℕ) → place < length (inserted second) → (index : ℕ) × (slice_get (origins first second size) index ≡ Some (Second place))

-- a merge of patches that insert texts inserts texts
abbrev pub MergedInsertsTexts : Type 0
MergedInsertsTexts =
    (first second : Patch) (size : ℕ) → CanMerge first second size → All (λ (operation : Operation). IsText operation.insert) first.ops
    → All (λ (operation : Operation). IsText operation.insert) second.ops → All (λ (operation : Operation). IsText operation.insert) (merged first second size).ops

-- copying a list by a merge is copying it by both patches in turn, where each inserted unit has the element that it has where it comes from
abbrev pub MergedCopies : Type 0 → Type 0
MergedCopies A =
    (past : A) (first second : Patch) (of_first of_second old : List A) → CanMerge first second (length old) → length of_first ≡ length (inserted first) → length of_second ≡ length (inserted second)
    → patched (merged first second (length old)) (map (named_in past of_first of_second) (origins first second (length old))) old ≡ patched second of_second (patched first of_first old)

-- what a merge removes is what the first patch removes, and what the second one removes of the rest
abbrev pub MergedRemoves : Type 0
MergedRemoves =
    (first second : Patch) (size place : ℕ) → CanMerge first second size
    → Removes (merged first second size) place ↔ (Removes first place ⊎ ((at : ℕ) × IsKeptFrom first size place at × Removes second at))

-- a unit that the first patch inserts is inserted by the merge, or the second one removes it
abbrev pub FirstStandsUnlessRemoved : Type 0 → Type 0
FirstStandsUnlessRemoved A =
    (first second : Patch) (of_first old : List A) (place : ℕ) (element : A) → CanMerge first second (length old) → length of_first ≡ length (inserted first) → slice_get of_first place ≡ Some element
    → ((index : ℕ) × (slice_get (origins first second (length old)) index ≡ Some (First place))) ⊎ ((at : ℕ) × Removes second at × (slice_get (patched first of_first old) at ≡ Some element))
