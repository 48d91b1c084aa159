-- Whether an operation of the second patch meets the first one as a merge asks.
use Rattle.std.specs.Prelude.{ℕ, ◌≤◌, Option, Some, None}
use Rattle.pad_patch.specs.declared.operation.Operation.{Operation}
use Rattle.pad_patch.specs.declared.patch.Patch.{Patch}
use Rattle.pad_patch.specs.Piece.{end_of, length_after}
use Rattle.pad_merge.specs.UnitSource.{UnitSource, kept_at, new_unit}
use Rattle.pad_merge.specs.Merge.{CutsInserted}

-- the unit of a source, if it is a new one
abbrev pub new_of : UnitSource → Option ℕ
new_of (kept_at place) = None
new_of (new_unit unit) = Some unit

-- an operation ends within the text after a patch, and cuts no pair that the patch inserts
pub record MeetsFirst (first : Patch) (size : ℕ) (operation : Operation) : Type 0 where
  pub inside : end_of operation ≤ length_after first size
  pub starts_whole : ¬ (CutsInserted first size operation.offset)
  pub ends_whole : ¬ (CutsInserted first size (end_of operation))
