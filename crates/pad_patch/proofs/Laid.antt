-- Operations that stand in order, each within the text.
use Rattle.std.proofs.Common.{◌≡◌, ℕ, zero, suc, ◌+◌, ◌<◌, ◌≤◌, List, [], ◌∷◌, drop, refl, subst, arith, add-one, ap}
use Rattle.std.specs.Prelude.{Some, slice_get}
use Rattle.pad_patch.specs.declared.operation.Operation.{Operation}
use Rattle.pad_patch.specs.declared.patch.Patch.{Patch}
use Rattle.pad_patch.specs.Piece.{end_of}
use Rattle.pad_patch.specs.Misfit.{Overlaps, EndsAfter}

-- the operations stand in order from a place on, and each ends within `size` units
abbrev pub IsLaid : ℕ → ℕ → List Operation → Type 0
IsLaid place size [] = place ≤ size
IsLaid place size (operation ∷ operations) =
    (place ≤ operation.offset) × (end_of operation ≤ size) × IsLaid (end_of operation) size operations

-- each operation ends no later than the next one starts
abbrev pub InOrder : List Operation → Type 0
InOrder operations =
    (index : ℕ) (earlier later : Operation) → slice_get operations index ≡ Some earlier → slice_get operations (suc index) ≡ Some later → end_of earlier ≤ later.offset

-- each operation ends within `size` units
abbrev pub Inside : ℕ → List Operation → Type 0
Inside size operations = (index : ℕ) (operation : Operation) → slice_get operations index ≡ Some operation → end_of operation ≤ size

-- the first operation starts at a place or behind it
abbrev pub StartsFrom : ℕ → List Operation → Type 0
StartsFrom place [] = Unit {0}
StartsFrom place (operation ∷ operations) = place ≤ operation.offset

StartsFrom-next : (operation : Operation) (operations : List Operation) → InOrder (operation ∷ operations) → StartsFrom (end_of operation) operations
StartsFrom-next operation [] ordered = tt
StartsFrom-next operation (next ∷ operations) ordered = ordered 0 operation next refl refl

laid_from : (place size : ℕ) (operations : List Operation) → place ≤ size → StartsFrom place operations → InOrder operations → Inside size operations → IsLaid place size operations
laid_from place size [] within starts ordered inside = within
laid_from place size (operation ∷ operations) within starts ordered inside =
    let fits : end_of operation ≤ size = inside 0 operation refl in (
      starts,
      fits,
      laid_from (end_of operation) size operations fits (StartsFrom-next operation operations ordered)
          (λ index earlier later is_earlier is_later. ordered (suc index) earlier later is_earlier is_later)
          (λ index last is_last. inside (suc index) last is_last),
    )

StartsFrom-zero : (operations : List Operation) → StartsFrom 0 operations
StartsFrom-zero [] = tt
StartsFrom-zero (operation ∷ operations) = omega arith

ordered_of : (patch : Patch) → ((index : ℕ) → ¬ (Overlaps patch index)) → InOrder patch.ops
ordered_of patch ordered index earlier later is_earlier is_later =
    let apart : later.offset < end_of earlier → ⊥ =
    λ early. ordered (index + 1) (earlier, later, index, refl, is_earlier, rw add-one is_later, early) in
    omega arith

pub inside_of : (patch : Patch) (size : ℕ) → ((index : ℕ) → ¬ (EndsAfter patch size index)) → Inside size patch.ops
inside_of patch size inside index operation is_operation =
    let within : size < end_of operation → ⊥ = λ late. inside index (operation, is_operation, late) in
    omega arith

-- a patch without overlaps and within the text is laid out from its start
pub laid : (patch : Patch) (size : ℕ) → ((index : ℕ) → ¬ (Overlaps patch index)) → ((index : ℕ) → ¬ (EndsAfter patch size index)) → IsLaid 0 size patch.ops
laid patch size ordered inside =
    laid_from 0 size patch.ops (omega arith) (StartsFrom-zero patch.ops) (ordered_of patch ordered) (inside_of patch size inside)

-- an operation ends within the text, and the later ones stand in order behind it
pub IsLaid-at : (place size index : ℕ) (operations : List Operation) (operation : Operation) → IsLaid place size operations → slice_get operations index ≡ Some operation
    → (end_of operation ≤ size) × IsLaid (end_of operation) size (drop (suc index) operations)
IsLaid-at place size index [] operation laid_out is = cc
IsLaid-at place size zero (first ∷ operations) operation laid_out is =
    let same : first ≡ operation = cc in
    subst (λ (o : Operation). (end_of o ≤ size) × IsLaid (end_of o) size operations) same (laid_out.1, laid_out.2)
IsLaid-at place size (suc index) (first ∷ operations) operation laid_out is =
    IsLaid-at (end_of first) size index operations operation laid_out.2 is

-- what stands in order from a place on stands in order from an earlier one on
pub IsLaid-before : (low high size : ℕ) (operations : List Operation) → low ≤ high → IsLaid high size operations → IsLaid low size operations
IsLaid-before low high size [] order laid_out = omega arith
IsLaid-before low high size (operation ∷ operations) order (start, inside, rest) = (omega arith, inside, rest)

-- operations that stand in order do not overlap
apart : (place size index : ℕ) (operations : List Operation) (earlier later : Operation) → IsLaid place size operations
    → slice_get operations index ≡ Some earlier → slice_get operations (suc index) ≡ Some later → end_of earlier ≤ later.offset
apart place size index [] earlier later laid_out is_earlier is_later = cc
apart place size zero (first ∷ []) earlier later laid_out is_earlier is_later = cc
apart place size zero (first ∷ second ∷ operations) earlier later laid_out is_earlier is_later =
    let same_first : first ≡ earlier = cc in
    let same_second : second ≡ later = cc in
    omega (arith, laid_out.2.0, ap end_of same_first, ap (λ (o : Operation). o.offset) same_second)
apart place size (suc index) (first ∷ operations) earlier later laid_out is_earlier is_later =
    apart (end_of first) size index operations earlier later laid_out.2 is_earlier is_later

pub ordered_laid : (patch : Patch) (size : ℕ) → IsLaid 0 size patch.ops → (index : ℕ) → ¬ (Overlaps patch index)
ordered_laid patch size laid_out index (earlier, later, before, follows, is_earlier, is_later, early) =
    let behind : index ≡ suc before = omega arith in
    omega (arith, apart 0 size before patch.ops earlier later laid_out is_earlier (rw behind at is_later))

pub inside_laid : (patch : Patch) (size : ℕ) → IsLaid 0 size patch.ops → (index : ℕ) → ¬ (EndsAfter patch size index)
inside_laid patch size laid_out index (operation, is, late) =
    omega (arith, (IsLaid-at 0 size index patch.ops operation laid_out is).0)
