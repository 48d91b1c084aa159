-- What a patch removes of a text, and what it keeps.
use Rattle.std.specs.Prelude.{◌≡◌, ℕ, ◌-◌, ◌<◌, ◌≤◌, List, [], ◌∷◌, ◌++◌, length, map, take, drop, replicate, slice_get, Option, Some, None}
use Rattle.std.specs.List.{range_with_len}
use Rattle.pad_patch.specs.declared.operation.Operation.{Operation}
use Rattle.pad_patch.specs.declared.patch.Patch.{Patch}
use Rattle.pad_patch.specs.Piece.{end_of, inserted, patched}
use Rattle.pad_patch.specs.Misfit.{HasOperation}

-- an operation of the patch removes the unit at this place
abbrev pub Removes : Patch → ℕ → Type 0
Removes patch place = (index : ℕ) × (operation : Operation) × HasOperation patch index operation × (operation.offset ≤ place) × (place < end_of operation)

-- where each unit of the text after a patch stood in the text before, which has `size` units; a new one stood nowhere
abbrev pub old_places : Patch → ℕ → List (Option ℕ)
old_places patch size = patched patch (replicate (length (inserted patch)) None) (map Some (range_with_len 0 size))

-- the unit at this place of the text after a patch is the one that stood at `old` in the text before, which has `size` units
abbrev pub IsKeptFrom : Patch → ℕ → ℕ → ℕ → Type 0
IsKeptFrom patch size old place = slice_get (old_places patch size) place ≡ Some (Some old)

-- what operations remove of a list with one element for each unit
abbrev pub removed_by : {A : Type 0} → List Operation → List A → List A
removed_by [] old = []
removed_by (operation ∷ operations) old = take (end_of operation - operation.offset) (drop operation.offset old) ++ removed_by operations old
