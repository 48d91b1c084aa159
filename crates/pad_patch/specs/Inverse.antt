-- The patch that takes another one back.
use Rattle.std.specs.Prelude.{ℕ, ◌+◌, ◌-◌, List, [], ◌∷◌, length}
use Rattle.pad_text.specs.Hash.{document_hash}
use Rattle.pad_patch.specs.declared.operation.Operation.{Operation}
use Rattle.pad_patch.specs.declared.patch.Patch.{Patch}
use Rattle.pad_patch.specs.Piece.{end_of, text_after}
use Rattle.pad_patch.specs.UnitStore.{between}

-- one operation takes back one operation, where those before it have inserted and removed so many units:
-- it removes what was inserted, and inserts what was removed
abbrev pub inverse_operation : ℕ → ℕ → List ℕ → Operation → Operation
inverse_operation inserted removed text operation = record {
  offset = operation.offset + inserted - removed;
  remove = length operation.insert;
  insert = between operation.offset (end_of operation) text;
}

-- the operations that take others back, where those before them have inserted and removed so many units
abbrev pub inverse_operations : ℕ → ℕ → List ℕ → List Operation → List Operation
inverse_operations inserted removed text [] = []
inverse_operations inserted removed text (operation ∷ operations) =
    inverse_operation inserted removed text operation ∷ inverse_operations (inserted + length operation.insert) (removed + operation.remove) text operations

-- the inverse of a patch on a text: it is for the text after the patch
unfoldable pub inverse : Patch → List ℕ → Patch
inverse patch text = record { ops = inverse_operations 0 0 text patch.ops; before = document_hash (text_after patch text) }
