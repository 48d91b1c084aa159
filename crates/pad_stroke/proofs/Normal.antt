-- Patches in normal form, by recursion on their operations.
use Rattle.std.proofs.Common.{◌≡◌, ℕ, zero, suc, ◌+◌, ◌<◌, ◌≤◌, ◌⊎◌, List, [], ◌∷◌, length, refl, sym, ◌∙◌, ap, subst, arith, add-one}
use Rattle.std.specs.Prelude.{Some, slice_get}
use Rattle.pad_patch.specs.declared.operation.Operation.{Operation}
use Rattle.pad_patch.specs.declared.patch.Patch.{Patch}
use Rattle.pad_patch.specs.Piece.{end_of}
use Rattle.pad_patch.specs.Misfit.{Overlaps}
use Rattle.pad_merge.specs.Merge.{IsNormal}
use Rattle.pad_stroke.proofs.Joints.{IsRow}

-- each of the operations removes or inserts something
abbrev pub AreNeeded : List Operation → Type 0
AreNeeded operations = (index : ℕ) (operation : Operation) → slice_get operations index ≡ Some operation → (0 < operation.remove) ⊎ (0 < length operation.insert)

-- each of the operations ends before the next one starts, or where it does
abbrev pub AreOrdered : List Operation → Type 0
AreOrdered operations =
    (index : ℕ) (earlier later : Operation) → slice_get operations index ≡ Some earlier → slice_get operations (suc index) ≡ Some later → end_of earlier ≤ later.offset

-- the first of the operations starts at a place or behind it
abbrev pub StartsFrom : ℕ → List Operation → Type 0
StartsFrom low [] = Unit {0}
StartsFrom low (operation ∷ operations) = low ≤ operation.offset

StartsFrom-zero : (operations : List Operation) → StartsFrom 0 operations
StartsFrom-zero [] = tt
StartsFrom-zero (operation ∷ operations) = omega arith

next_ordered : (operation : Operation) (operations : List Operation) → AreOrdered (operation ∷ operations) → StartsFrom (end_of operation) operations
next_ordered operation [] ordered = tt
next_ordered operation (next ∷ operations) ordered = ordered 0 operation next refl refl

pub row_from : (low : ℕ) (operations : List Operation) → StartsFrom low operations → AreOrdered operations → AreNeeded operations → IsRow low operations
row_from low [] starts ordered needed = tt
row_from low (operation ∷ operations) starts ordered needed = (
  starts,
  needed 0 operation refl,
  row_from (end_of operation) operations (next_ordered operation operations ordered)
      (λ index earlier later is_earlier is_later. ordered (suc index) earlier later is_earlier is_later)
      (λ index later is. needed (suc index) later is),
)

pub ordered_of : (patch : Patch) → ((index : ℕ) → ¬ (Overlaps patch index)) → AreOrdered patch.ops
ordered_of patch ordered index earlier later is_earlier is_later =
    let apart : later.offset < end_of earlier → ⊥ =
    λ early. ordered (index + 1) (earlier, later, index, refl, is_earlier, rw add-one is_later, early) in
    omega arith

-- a patch without overlaps, none of whose operations is empty, is a row
pub row_of : (patch : Patch) → ((index : ℕ) → ¬ (Overlaps patch index)) → AreNeeded patch.ops → IsRow 0 patch.ops
row_of patch ordered needed = row_from 0 patch.ops (StartsFrom-zero patch.ops) (ordered_of patch ordered) needed

-- a patch in normal form has no overlaps
pub ordered_normal : (patch : Patch) → IsNormal patch → (index : ℕ) → ¬ (Overlaps patch index)
ordered_normal patch normal index (earlier, later, before, follows, is_earlier, is_later, early) =
    let behind = normal.untouched before earlier later is_earlier (ap (slice_get patch.ops) (sym follows) ∙ is_later) in
    omega arith
