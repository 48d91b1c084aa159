-- When a patch fits a text, and which misfit is told where it does not.
use Rattle.std.specs.Prelude.{◌≡◌, ◌≢◌, ℕ, ◌+◌, ◌<◌, ◌⊎◌, Option, Some, None, List, length, slice_get}
use Rattle.pad_text.specs.Text.{CutsPair}
use Rattle.pad_text.specs.Hash.{document_hash}
use Rattle.pad_patch.specs.declared.operation.Operation.{Operation}
use Rattle.pad_patch.specs.declared.patch.Patch.{Patch}
use Rattle.pad_patch.specs.declared.patch.TheConstants.{LONGEST_TEXT}
use Rattle.pad_patch.specs.declared.misfit.Misfit.{Misfit}
use Rattle.pad_patch.specs.declared.misfit.Misfit.TheVariants.{Order, Range, Pair, TooLong, BeforeHash}
use Rattle.pad_patch.specs.Piece.{end_of, text_after}

-- the longest text, in units
abbrev pub longest_text : ℕ
longest_text = LONGEST_TEXT

-- the operation at this index
abbrev pub HasOperation : Patch → ℕ → Operation → Type 0
HasOperation patch index operation = slice_get patch.ops index ≡ Some operation

-- the operation at this index starts before the one before it ends
abbrev pub Overlaps : Patch → ℕ → Type 0
Overlaps patch index =
    (earlier later : Operation) × (before : ℕ) × (index ≡ before + 1) × HasOperation patch before earlier × HasOperation patch index later × (later.offset < end_of earlier)

-- the operation at this index ends after a text of `size` units
abbrev pub EndsAfter : Patch → ℕ → ℕ → Type 0
EndsAfter patch size index = (operation : Operation) × HasOperation patch index operation × (size < end_of operation)

-- the start or the end of the operation at this index cuts a pair
abbrev pub CutsPairAt : Patch → List ℕ → ℕ → Type 0
CutsPairAt patch text index =
    (operation : Operation) × HasOperation patch index operation × (CutsPair text operation.offset ⊎ CutsPair text (end_of operation))

-- what a misfit says of a patch and a text
abbrev pub IsMisfit : Patch → List ℕ → Misfit → Type 0
IsMisfit patch text (Order index) = Overlaps patch index
IsMisfit patch text (Range index) = EndsAfter patch (length text) index
IsMisfit patch text (Pair index) = CutsPairAt patch text index
-- the result is longer than the longest text
IsMisfit patch text TooLong = longest_text < length (text_after patch text)
-- the patch was made for a text with another document hash
IsMisfit patch text BeforeHash = patch.before ≢ document_hash text

-- the place of a misfit's class in the order in which they are told
abbrev pub class_of : Misfit → ℕ
class_of (Order index) = 0
class_of (Range index) = 1
class_of (Pair index) = 2
class_of TooLong = 3
class_of BeforeHash = 4

-- the index of the operation that a misfit speaks of
abbrev pub index_of : Misfit → ℕ
index_of (Order index) = index
index_of (Range index) = index
index_of (Pair index) = index
index_of TooLong = 0
index_of BeforeHash = 0

-- one misfit is told before another: by its class, and then by its index
abbrev pub IsToldBefore : Misfit → Misfit → Type 0
IsToldBefore first second = (class_of first < class_of second) ⊎ ((class_of first ≡ class_of second) × (index_of first < index_of second))

-- the misfit that is told
pub record IsFirstMisfit (patch : Patch) (text : List ℕ) (misfit : Misfit) : Type 0 where
  pub holds : IsMisfit patch text misfit
  pub first : (other : Misfit) → IsMisfit patch text other → ¬ (IsToldBefore other misfit)

-- the patch fits the text
unfoldable pub Fits : Patch → List ℕ → Type 0
Fits patch text = (misfit : Misfit) → ¬ (IsMisfit patch text misfit)

-- the patch can be applied to the text: it has no misfit but its length or its hash
pub record CanApply (patch : Patch) (text : List ℕ) : Type 0 where
  pub ordered : (index : ℕ) → ¬ (Overlaps patch index)
  pub inside : (index : ℕ) → ¬ (EndsAfter patch (length text) index)
  pub whole : (index : ℕ) → ¬ (CutsPairAt patch text index)

-- the least index at which this holds, and none where it holds nowhere
abbrev pub IsLeast : (ℕ → Type 0) → Option ℕ → Type 0
IsLeast P None = (index : ℕ) → ¬ (P index)
IsLeast P (Some index) = P index × ((earlier : ℕ) → earlier < index → ¬ (P earlier))
