-- What holds of every operation and every patch.
use Rattle.std.specs.Prelude.{◌≡◌, ℕ, ◌+◌, ◌<◌, ◌≤◌, ◌^◌, List, [], length, slice_index, Some, None}
use Rattle.std.specs.List.{All}
use Rattle.pad_patch.specs.declared.operation.Operation.{Operation}
use Rattle.pad_patch.specs.declared.patch.Patch.{Patch}
use Rattle.pad_transform.specs.Table.{through, SumsFitThrough}
use Rattle.pad_patch.specs.Piece.{text_after, inserted}
use Rattle.pad_patch.specs.Misfit.{CanApply}
use Rattle.pad_patch.specs.Removed.{old_places, IsKeptFrom}

-- each sum fits where there is room behind each operation's start for all that the other patch inserts
abbrev pub SumsFitWithRoom : Type 0
SumsFitWithRoom =
    (patch by : Patch) → All (λ (operation : Operation). operation.offset + length (inserted by) ≤ 4294967295) patch.ops → All (SumsFitThrough by.ops) patch.ops

-- the insertion never changes
abbrev pub InsertionsStay : Type 0
InsertionsStay = (by : List Operation) (operation moved : Operation) → through by operation ≡ Some moved → moved.insert ≡ operation.insert

-- what is dropped inserts nothing
abbrev pub OnlyEmptyIsDropped : Type 0
OnlyEmptyIsDropped = (by : List Operation) (operation : Operation) → through by operation ≡ None → operation.insert ≡ []

-- or where the lengths of a text to which both patches apply and of that text after the other patch sum to less than 2^32
abbrev pub SumsFitWithin : Type 0
SumsFitWithin =
    (patch by : Patch) (text : List ℕ) → CanApply patch text → CanApply by text → length text + length (text_after by text) < 2 ^ 32 → All (SumsFitThrough by.ops) patch.ops

-- there is one old place for each unit of the text after a patch, and a kept unit is the one that stood at its old place
abbrev pub KeptUnitsStay : Type 0
KeptUnitsStay =
    (patch : Patch) (text : List ℕ) → CanApply patch text
    → (length (old_places patch (length text)) ≡ length (text_after patch text))
    × ((place old : ℕ) → IsKeptFrom patch (length text) old place → slice_index (text_after patch text) place ≡ slice_index text old)
