-- A patch copies a text from left to right, and puts each insertion in place of its range.
use Rattle.std.specs.Prelude.{ℕ, ◌+◌, ◌-◌, List, [], ◌∷◌, ◌++◌, length, take, drop}
use Rattle.std.specs.List.{flat_map, sum_by}
use Rattle.pad_patch.specs.declared.operation.Operation.{Operation}
use Rattle.pad_patch.specs.declared.patch.Patch.{Patch}

-- a part of the copy
pub data Piece : Type 0 where
  -- so many units of the text, from a place on
  keep : (from count : ℕ) → Piece
  -- new units
  new_units : List ℕ → Piece

-- the place after the last unit that an operation removes
abbrev pub end_of : Operation → ℕ
end_of operation = operation.offset + operation.remove

-- the pieces that copy a text of `size` units from a place on
abbrev pub pieces_from : ℕ → ℕ → List Operation → List Piece
pieces_from place size [] = keep place (size - place) ∷ []
pieces_from place size (operation ∷ operations) =
    keep place (operation.offset - place) ∷ new_units operation.insert ∷ pieces_from (end_of operation) size operations

-- the pieces that copy a text of `size` units
abbrev pub pieces : Patch → ℕ → List Piece
pieces patch size = pieces_from 0 size patch.ops

-- the number of units of a piece
abbrev pub size_of_piece : Piece → ℕ
size_of_piece (keep from count) = count
size_of_piece (new_units units) = length units

-- the length of a text of `size` units after a patch
abbrev pub length_after : Patch → ℕ → ℕ
length_after patch size = sum_by size_of_piece (pieces patch size)

-- a list with one element for each unit of a text, copied by pieces: a kept unit has the element that it had, and the
-- new units have these, in order
abbrev pub patched_pieces : {A : Type 0} → List A → List A → List Piece → List A
patched_pieces old new [] = []
patched_pieces old new (keep from count ∷ parts) = take count (drop from old) ++ patched_pieces old new parts
patched_pieces old new (new_units units ∷ parts) = take (length units) new ++ patched_pieces old (drop (length units) new) parts

-- such a list after a patch: the units that it inserts have these elements
abbrev pub patched : {A : Type 0} → Patch → List A → List A → List A
patched patch new old = patched_pieces old new (pieces patch (length old))

-- the insertions of operations, joined
abbrev pub insertions : List Operation → List ℕ
insertions operations = flat_map (λ (operation : Operation). operation.insert) operations

-- the insertions of a patch, joined
abbrev pub inserted : Patch → List ℕ
inserted patch = insertions patch.ops

-- the text after a patch: the list of its units
unfoldable pub text_after : Patch → List ℕ → List ℕ
text_after patch text = patched patch (inserted patch) text
