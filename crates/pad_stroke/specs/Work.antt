-- A work: a patch whose inserted units are marked.
use Rattle.std.specs.Prelude.{◌≡◌, List, [], All, length}
use Rattle.pad_text.specs.Text.{IsText}
use Rattle.pad_text.specs.declared.name.Name.{Name}
use Rattle.pad_patch.specs.declared.operation.Operation.{Operation}
use Rattle.pad_patch.specs.declared.patch.Patch.{Patch}
use Rattle.pad_patch.specs.Piece.{inserted}
use Rattle.pad_merge.specs.Merge.{IsNormal}
use Rattle.pad_stroke.specs.declared.mark.Mark.{Mark}

-- what contracts see of a work: a patch, and the marks of the units that it inserts, in their order
pub record Marked : Type 0 where
  pub patch : Patch
  pub marks : List Mark

-- the patch is in normal form and inserts texts, and there is one mark for each inserted unit
pub record IsWork (work : Marked) : Type 0 where
  pub normal : IsNormal work.patch
  pub texts : All (λ (operation : Operation). IsText operation.insert) work.patch.ops
  pub counted : length work.marks ≡ length (inserted work.patch)

-- the work without operations, on a text with this document hash
abbrev pub empty : Name → Marked
empty before = record { patch = record { ops = []; before = before }; marks = [] }

-- the work moved to a text with this document hash
abbrev pub moved_to : Marked → Name → Marked
moved_to work before = record { patch = record { ops = work.patch.ops; before = before }; marks = work.marks }
