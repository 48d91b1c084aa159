-- A work on the text that another patch changed first.
use Rattle.std.specs.Prelude.{◌+◌, ◌==◌, if◌then◌else◌, List, [], ◌∷◌, ◌++◌}
use Rattle.pad_text.specs.declared.name.Name.{Name}
use Rattle.pad_patch.specs.declared.operation.Operation.{Operation}
use Rattle.pad_patch.specs.declared.patch.Patch.{Patch}
use Rattle.pad_patch.specs.Piece.{end_of}
use Rattle.pad_transform.specs.Table.{transformed_all}
use Rattle.pad_stroke.specs.Work.{Marked}

-- two operations, of which the first ends where the second starts, as one
abbrev pub together : Operation → Operation → Operation
together first second = record {
  offset = first.offset;
  remove = first.remove + second.remove;
  insert = first.insert ++ second.insert;
}

-- an operation in front of others: as one with the next where it ends at the next one's start
abbrev pub in_front : Operation → List Operation → List Operation
in_front operation [] = operation ∷ []
in_front operation (next ∷ later) =
    if end_of operation == next.offset then together operation next ∷ later else operation ∷ next ∷ later

-- the operations, those that touch joined
abbrev pub joined : List Operation → List Operation
joined [] = []
joined (operation ∷ operations) = in_front operation (joined operations)

-- the work carried over another patch: its operations by the other's, those that touch then joined, for the text with
-- this document hash; each unit keeps its mark
unfoldable pub carried : Marked → Patch → Name → Marked
carried work by after = record {
  patch = record { ops = joined (transformed_all work.patch by); before = after };
  marks = work.marks;
}
