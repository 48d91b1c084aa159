-- What the layer above a log speaks of.
use Rattle.std.specs.Prelude.{◌≡◌, ◌⊎◌, ℕ, ◌+◌, ◌*◌, ◌&&◌, nat_le, Bool, List, [], ◌∷◌, ◌++◌, length}
use Rattle.log_format.specs.declared.form.Form.{Form}
use Rattle.log_format.specs.declared.layout.TheConstants.{ENTRY_HEAD, EMPTY_LOG}
use Rattle.log_format.specs.Frames.{size_of}
use Rattle.log_format.specs.Form.{most_entries_of, most_bytes_of}

-- it opens as these payloads, or as these and those added
abbrev pub Within : (List (List ℕ) → Type 0) → (payloads added : List (List ℕ)) → Type 0
Within opens_as payloads added = opens_as payloads ⊎ opens_as (payloads ++ added)

-- Whether so many entries more, with so many bytes of payload together, fit behind these payloads in a log of this form:
-- into its entries, and into its bytes, of which nine stand in each log, and five and the payload in each entry.
abbrev pub has_room : Form → List (List ℕ) → (entries bytes : ℕ) → Bool
has_room form payloads entries bytes =
    nat_le (length payloads + entries) (most_entries_of form) && nat_le (EMPTY_LOG + ENTRY_HEAD * (length payloads + entries) + size_of payloads + bytes) (most_bytes_of form)

-- a list with some payloads of the other left out
abbrev pub LeavesOut : (left whole : List (List ℕ)) → Type 0
LeavesOut [] whole = Unit {0}
LeavesOut (payload ∷ left) [] = ⊥
LeavesOut (payload ∷ left) (first ∷ whole) = ((payload ≡ first) × LeavesOut left whole) ⊎ LeavesOut (payload ∷ left) whole
