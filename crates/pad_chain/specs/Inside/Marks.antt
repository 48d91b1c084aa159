-- The marks of the messages of a branch, by their undos.
use Rattle.std.specs.Prelude.{◌≡◌, ℕ, ◌+◌, List, [], ◌∷◌, Contains, false}
use Rattle.pad_message.specs.Kind.{is_checkpoint}
use Rattle.pad_checkpoint.specs.declared.path_mark.PathMark.{PathMark}
use Rattle.pad_branch.specs.declared.undo.Undo.{Undo}

-- the mark of the message that the undo takes back, at this height
abbrev pub mark_at : Undo → ℕ → PathMark
mark_at undo height = record { place = record { name = undo.after.name; height = height }; checkpoint = is_checkpoint undo.kind }

-- the marks of these, the oldest first, on one of the height `low`
abbrev pub marks_from : ℕ → List Undo → List PathMark
marks_from low [] = []
marks_from low (undo ∷ undos) = mark_at undo (low + 1) ∷ marks_from (low + 1) undos

-- none of these takes back a checkpoint
abbrev pub NoneIsCheckpoint : List Undo → Type 0
NoneIsCheckpoint undos = (undo : Undo) → Contains undos undo → is_checkpoint undo.kind ≡ false
