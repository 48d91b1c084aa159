-- Edits that take units out of a text, from the last one to the first.
use Rattle.std.specs.Prelude.{◌≡◌, ℕ, ◌≤◌, ◌<◌, true, List, [], ◌∷◌, ◌++◌, take, drop, sum_by, All, length}
use Rattle.pad_patch.specs.declared.operation.Operation.{Operation}
use Rattle.pad_patch.specs.Piece.{end_of}
use Rattle.pad_stroke.specs.Row.{Row}
use Rattle.pad_stroke.specs.Edit.{IsAllowed, shown_after}
use Rattle.pad_strokes.specs.Row.{is_unit_of, units_of, without}

-- a list without the elements of a range
abbrev pub removed_from : {A : Type 0} → Operation → List A → List A
removed_from operation items = take operation.offset items ++ drop (end_of operation) items

-- what is left after all, the last one first
abbrev pub taken_out : {A : Type 0} → List Operation → List A → List A
taken_out [] items = items
taken_out (operation ∷ operations) items = removed_from operation (taken_out operations items)

-- the operation only removes, and at least one unit
pub record IsPlain (operation : Operation) : Type 0 where
  pub inserts : operation.insert ≡ []
  pub removes : 1 ≤ operation.remove

-- each unit of the text that it removes is of the stroke
abbrev pub RemovesOwn : ℕ → Row → Operation → Type 0
RemovesOwn stroke row operation = (place : ℕ) → operation.offset ≤ place → place < end_of operation → is_unit_of stroke row place ≡ true

-- the operations take out the units of the stroke: each removes only such units, and all together as many as there are
pub record IsRemovalOf (stroke : ℕ) (row : Row) (operations : List Operation) : Type 0 where
  pub plain : All IsPlain operations
  pub own : All (RemovesOwn stroke row) operations
  pub all : sum_by (λ (operation : Operation). operation.remove) operations ≡ units_of stroke row
  -- the text with this row has the other units left, and so has the row
  pub text : (text : List ℕ) → length text ≡ length row → taken_out operations text ≡ without stroke row text
  pub row_left : taken_out operations row ≡ without stroke row row

-- each is an allowed edit of what the later ones leave, and leaves what it removes from that
abbrev pub CanTakeOut : List ℕ → List Operation → Type 0
CanTakeOut text [] = Unit {0}
CanTakeOut text (operation ∷ operations) =
    CanTakeOut text operations × IsAllowed (taken_out operations text) operation
    × (shown_after operation (taken_out operations text) ≡ taken_out (operation ∷ operations) text)
