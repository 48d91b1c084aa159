-- The index of a log: where its payloads stand.
use Rattle.std.specs.Prelude.{ℕ, ◌+◌, List, [], ◌∷◌, length}
use Rattle.log_format.specs.declared.layout.TheConstants.{ENTRY_HEAD}
use Rattle.gated_log.specs.declared.extent.Extent.{Extent}

-- where these payloads stand in a file, the first of them behind the gate at this place
abbrev pub extents : (gate : ℕ) → List (List ℕ) → List Extent
extents gate [] = []
extents gate (payload ∷ payloads) = record { place = gate + ENTRY_HEAD; size = length payload } ∷ extents (gate + ENTRY_HEAD + length payload) payloads
