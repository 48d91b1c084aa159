-- What holds of every patch and every text.
use Rattle.std.specs.Prelude.{◌≡◌, ℕ, ◌<◌, ◌⊎◌, ◌↔◌, List, [], All, Some, Contains, length, map, slice_get}
use Rattle.pad_text.specs.Text.{IsText}
use Rattle.pad_patch.specs.declared.operation.Operation.{Operation}
use Rattle.pad_patch.specs.declared.patch.Patch.{Patch}
use Rattle.pad_patch.specs.Piece.{inserted, patched, length_after, text_after}
use Rattle.pad_patch.specs.Removed.{Removes, IsKeptFrom, removed_by}
use Rattle.pad_patch.specs.Misfit.{Overlaps, EndsAfter, CutsPairAt, CanApply, Fits}
use Rattle.pad_patch.specs.Inverse.{inverse}

-- a patch without operations leaves every text
abbrev pub NoOperationsChangeNothing : Type 0
NoOperationsChangeNothing = (patch : Patch) (text : List ℕ) → patch.ops ≡ [] → text_after patch text ≡ text

-- the length of the text after a patch, where each operation ends within the text
abbrev pub LengthIsCounted : Type 0
LengthIsCounted =
    (patch : Patch) (text : List ℕ) → ((index : ℕ) → ¬ (EndsAfter patch (length text) index)) → length (text_after patch text) ≡ length_after patch (length text)

-- the text after a patch that inserts texts and cuts no pair is a text
abbrev pub TextsStayTexts : Type 0
TextsStayTexts =
    (patch : Patch) (text : List ℕ) → IsText text → All (λ (operation : Operation). IsText operation.insert) patch.ops → ((index : ℕ) → ¬ (CutsPairAt patch text index))
    → IsText (text_after patch text)

-- a patch that fits a text can be applied to it
abbrev pub FittingApplies : Type 0
FittingApplies = (patch : Patch) (text : List ℕ) → Fits patch text → CanApply patch text

-- the inverse of a patch gives the text back
abbrev pub InverseGivesBack : Type 0
InverseGivesBack =
    (patch : Patch) (text : List ℕ) → ((index : ℕ) → ¬ (Overlaps patch index)) → ((index : ℕ) → ¬ (EndsAfter patch (length text) index))
    → text_after (inverse patch text) (text_after patch text) ≡ text

-- the inverse of a patch that inserts texts can be applied to the text after the patch
abbrev pub InverseApplies : Type 0
InverseApplies =
    (patch : Patch) (text : List ℕ) → IsText text → All (λ (operation : Operation). IsText operation.insert) patch.ops → CanApply patch text
    → CanApply (inverse patch text) (text_after patch text)

-- and inserts texts
abbrev pub InverseInsertsTexts : Type 0
InverseInsertsTexts =
    (patch : Patch) (text : List ℕ) → IsText text → CanApply patch text → All (λ (operation : Operation). IsText operation.insert) (inverse patch text).ops

-- the inverse has one operation for each operation
abbrev pub OneOperationEach : Type 0
OneOperationEach = (patch : Patch) (text : List ℕ) → length (inverse patch text).ops ≡ length patch.ops

-- the copy of what the elements are mapped to is what the elements of the copy are mapped to
abbrev pub CopiesMap : (A B : Type 0) → Type 0
CopiesMap A B = (f : A → B) (patch : Patch) (new old : List A) → map f (patched patch new old) ≡ patched patch (map f new) (map f old)

-- a kept unit keeps its element in each list that the patch copies
abbrev pub KeptElementsStay : Type 0 → Type 0
KeptElementsStay A =
    (patch : Patch) (new old : List A) (place at : ℕ) (element : A) → length new ≡ length (inserted patch) → IsKeptFrom patch (length old) place at
    → slice_get old place ≡ Some element → slice_get (patched patch new old) at ≡ Some element

-- each element of a copied list is a new one or that of a kept unit
abbrev pub KeptOrNew : Type 0 → Type 0
KeptOrNew A =
    (patch : Patch) (new old : List A) (at : ℕ) (element : A) → length new ≡ length (inserted patch) → slice_get (patched patch new old) at ≡ Some element
    → ((place : ℕ) × IsKeptFrom patch (length old) place at × (slice_get old place ≡ Some element)) ⊎ ((index : ℕ) × (slice_get new index ≡ Some element))

-- each unit of a text is removed or kept
abbrev pub RemovedOrKept : Type 0
RemovedOrKept =
    (patch : Patch) (size place : ℕ) → ((index : ℕ) → ¬ (Overlaps patch index)) → ((index : ℕ) → ¬ (EndsAfter patch size index)) → place < size
    → Removes patch place ⊎ ((at : ℕ) × IsKeptFrom patch size place at)

-- and not both
abbrev pub KeptIsNotRemoved : Type 0
KeptIsNotRemoved =
    (patch : Patch) (size place at : ℕ) → ((index : ℕ) → ¬ (Overlaps patch index)) → ((index : ℕ) → ¬ (EndsAfter patch size index))
    → IsKeptFrom patch size place at → ¬ (Removes patch place)

-- the inverse gives back each list that the patch copies, where what the patch removed of it is put in again
abbrev pub InverseGivesListsBack : Type 0 → Type 0
InverseGivesListsBack A =
    (patch : Patch) (text : List ℕ) (new old : List A) → ((index : ℕ) → ¬ (Overlaps patch index)) → ((index : ℕ) → ¬ (EndsAfter patch (length text) index))
    → length text ≡ length old → length new ≡ length (inserted patch) → patched (inverse patch text) (removed_by patch.ops old) (patched patch new old) ≡ old

-- a unit that the inverse keeps is one that the patch kept, turned round, and it keeps each of them
abbrev pub InverseTurnsRound : Type 0
InverseTurnsRound =
    (patch : Patch) (text : List ℕ) (place at : ℕ) → ((index : ℕ) → ¬ (Overlaps patch index)) → ((index : ℕ) → ¬ (EndsAfter patch (length text) index))
    → IsKeptFrom (inverse patch text) (length (text_after patch text)) at place ↔ IsKeptFrom patch (length text) place at

-- the inverse of the inverse has the operations of the patch
abbrev pub InverseOfInverse : Type 0
InverseOfInverse =
    (patch : Patch) (text : List ℕ) → ((index : ℕ) → ¬ (Overlaps patch index)) → ((index : ℕ) → ¬ (EndsAfter patch (length text) index))
    → (inverse (inverse patch text) (text_after patch text)).ops ≡ patch.ops

-- what operations remove of a list are the elements at the places that the patch removes
abbrev pub RemovedAtPlaces : Type 0 → Type 0
RemovedAtPlaces A =
    (patch : Patch) (old : List A) (element : A) → Contains (removed_by patch.ops old) element ↔ ((place : ℕ) × Removes patch place × (slice_get old place ≡ Some element))
