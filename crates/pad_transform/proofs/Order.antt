-- Operations in order stay in order.
use Rattle.std.proofs.Common.{◌≡◌, ℕ, zero, suc, ◌+◌, ◌<◌, ◌≤◌, List, [], ◌∷◌, refl, sym, ◌∙◌, ap, subst, arith, add-one}
use Rattle.std.specs.Prelude.{Option, Some, None, slice_get}
use Rattle.std.specs.List.{filter_map, cons_option}
use Rattle.pad_patch.specs.declared.operation.Operation.{Operation}
use Rattle.pad_patch.specs.declared.patch.Patch.{Patch}
use Rattle.pad_patch.specs.Piece.{end_of}
use Rattle.pad_patch.specs.Misfit.{Overlaps}
use Rattle.pad_transform.specs.Table.{through}
use Rattle.pad_transform.proofs.Cases.{Moved, behind, within, before, across, last_step}

-- two operations in order stay in order by one operation
order_kept : (b a a' c c' : Operation) → Moved a b c → Moved a' b c' → end_of a ≤ a'.offset → end_of c ≤ c'.offset
order_kept b a a' c c' (behind x y z) (behind x' y' z') order = omega arith
order_kept b a a' c c' (behind x y z) (within x' w' y' z') order = absurd (omega arith)
order_kept b a a' c c' (behind x y z) (before x' w' y' z') order = absurd (omega arith)
order_kept b a a' c c' (behind x y z) (across x' w' y' z') order = absurd (omega arith)
order_kept b a a' c c' (within x w y z) (behind x' y' z') order = omega arith
order_kept b a a' c c' (within x w y z) (within x' w' y' z') order = omega arith
order_kept b a a' c c' (within x w y z) (before x' w' y' z') order = absurd (omega arith)
order_kept b a a' c c' (within x w y z) (across x' w' y' z') order = absurd (omega arith)
order_kept b a a' c c' (before x w y z) (behind x' y' z') order = omega arith
order_kept b a a' c c' (before x w y z) (within x' w' y' z') order = omega arith
order_kept b a a' c c' (before x w y z) (before x' w' y' z') order = omega arith
order_kept b a a' c c' (before x w y z) (across x' w' y' z') order = omega arith
order_kept b a a' c c' (across x w y z) (behind x' y' z') order = omega arith
order_kept b a a' c c' (across x w y z) (within x' w' y' z') order = omega arith
order_kept b a a' c c' (across x w y z) (before x' w' y' z') order = omega arith
order_kept b a a' c c' (across x w y z) (across x' w' y' z') order = omega arith

-- and by several
order-through : (by : List Operation) (a a' c c' : Operation) → through by a ≡ Some c → through by a' ≡ Some c' → end_of a ≤ a'.offset → end_of c ≤ c'.offset
order-through [] a a' c c' is is' order =
    let same : a ≡ c = cc in
    let same' : a' ≡ c' = cc in
    subst (λ (x : Operation). end_of x ≤ c'.offset) same (subst (λ (x : Operation). end_of a ≤ x.offset) same' order)
order-through (b ∷ later) a a' c c' is is' order =
    let step = last_step a b later c is in
    let step' = last_step a' b later c' is' in
    order_kept b step.earlier step'.earlier c c' step.line step'.line (order-through later a a' step.earlier step'.earlier step.image step'.image order)

-- where an element of a list of images comes from
pub record IsImage (by operations : List Operation) (c : Operation) : Type 0 where
  pub index : ℕ
  pub first : Operation
  pub stands : slice_get operations index ≡ Some first
  pub image : through by first ≡ Some c

one_later : (by : List Operation) (a : Operation) (operations : List Operation) (c : Operation) → IsImage by operations c → IsImage by (a ∷ operations) c
one_later by a operations c found = record { index = suc found.index; first = found.first; stands = found.stands; image = found.image }

image_by : (by : List Operation) (a : Operation) (operations : List Operation) (index : ℕ) (c : Operation) (o : Option Operation) → through by a ≡ o
    → slice_get (cons_option o (filter_map (through by) operations)) index ≡ Some c
    → ((i : ℕ) → slice_get (filter_map (through by) operations) i ≡ Some c → IsImage by operations c) → IsImage by (a ∷ operations) c
image_by by a operations index c None image is rest = one_later by a operations c (rest index is)
image_by by a operations zero c (Some d) image is rest =
    let same : d ≡ c = cc in
    record { index = 0; first = a; stands = refl; image = image ∙ ap Some same }
image_by by a operations (suc index) c (Some d) image is rest = one_later by a operations c (rest index is)

pub image_of : (by operations : List Operation) (index : ℕ) (c : Operation) → slice_get (filter_map (through by) operations) index ≡ Some c → IsImage by operations c
image_of by [] index c is = cc
image_of by (a ∷ operations) index c is = image_by by a operations index c (through by a) refl is (λ i is_later. image_of by operations i c is_later)

-- each of the operations starts at a place or behind it
abbrev AllFrom : ℕ → List Operation → Type 0
AllFrom place operations = (index : ℕ) (later : Operation) → slice_get operations index ≡ Some later → place ≤ later.offset

-- each of the operations ends before each later one starts
abbrev AreSorted : List Operation → Type 0
AreSorted [] = Unit {0}
AreSorted (a ∷ operations) = AllFrom (end_of a) operations × AreSorted operations

AllFrom-sorted : (place : ℕ) (operations : List Operation) → ((first : Operation) → slice_get operations 0 ≡ Some first → place ≤ first.offset) → AreSorted operations
    → AllFrom place operations
AllFrom-sorted place [] start sorted index later is = cc
AllFrom-sorted place (a ∷ operations) start sorted zero later is = start later is
AllFrom-sorted place (a ∷ operations) start sorted (suc index) later is =
    let first = start a refl in
    let behind_first = sorted.0 index later is in
    omega arith

-- each of the operations ends before the next one starts
abbrev IsInOrder : List Operation → Type 0
IsInOrder operations =
    (index : ℕ) (earlier later : Operation) → slice_get operations index ≡ Some earlier → slice_get operations (suc index) ≡ Some later → end_of earlier ≤ later.offset

AreSorted-in_order : (operations : List Operation) → IsInOrder operations → AreSorted operations
AreSorted-in_order [] in_order = tt
AreSorted-in_order (a ∷ operations) in_order =
    let rest = AreSorted-in_order operations (λ index earlier later is_earlier is_later. in_order (suc index) earlier later is_earlier is_later) in
    (AllFrom-sorted (end_of a) operations (λ first is. in_order 0 a first refl is) rest, rest)

in_order_of : (patch : Patch) → ((index : ℕ) → ¬ (Overlaps patch index)) → IsInOrder patch.ops
in_order_of patch ordered index earlier later is_earlier is_later =
    let apart : later.offset < end_of earlier → ⊥ =
    λ early. ordered (index + 1) (earlier, later, index, refl, is_earlier, rw add-one is_later, early) in
    omega arith

sorted_by : (by : List Operation) (a : Operation) (operations : List Operation) (o : Option Operation) → through by a ≡ o → AllFrom (end_of a) operations
    → AreSorted (filter_map (through by) operations) → AreSorted (cons_option o (filter_map (through by) operations))
sorted_by by a operations None image from rest = rest
sorted_by by a operations (Some c) image from rest = (
  λ index later is.
      let found = image_of by operations index later is in
      order-through by a found.first c later image found.image (from found.index found.first found.stands),
  rest,
)

AreSorted-through : (by operations : List Operation) → AreSorted operations → AreSorted (filter_map (through by) operations)
AreSorted-through by [] sorted = tt
AreSorted-through by (a ∷ operations) sorted =
    sorted_by by a operations (through by a) refl sorted.0 (AreSorted-through by operations sorted.1)

in_order_sorted : (operations : List Operation) → AreSorted operations → IsInOrder operations
in_order_sorted [] sorted index earlier later is is' = cc
in_order_sorted (a ∷ operations) sorted zero earlier later is is' =
    let same : a ≡ earlier = cc in
    subst (λ (x : Operation). end_of x ≤ later.offset) same (sorted.0 0 later is')
in_order_sorted (a ∷ operations) sorted (suc index) earlier later is is' = in_order_sorted operations sorted.1 index earlier later is is'

-- no operation of a transformed patch starts before the one before it ends
pub ordered-through : (moved patch : Patch) (by : List Operation) → moved.ops ≡ filter_map (through by) patch.ops → ((index : ℕ) → ¬ (Overlaps patch index))
    → (index : ℕ) → ¬ (Overlaps moved index)
ordered-through moved patch by is ordered index (earlier, later, previous, at, is_earlier, is_later, early) =
    let before : AreSorted patch.ops = AreSorted-in_order patch.ops (in_order_of patch ordered) in
    let after : AreSorted moved.ops = subst AreSorted (sym is) (AreSorted-through by patch.ops before) in
    let next : index ≡ suc previous = omega (arith, at) in
    let apart = in_order_sorted moved.ops after previous earlier later is_earlier (ap (slice_get moved.ops) (sym next) ∙ is_later) in
    omega arith
