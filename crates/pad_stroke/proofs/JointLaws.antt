-- The removals of carried work fit 32 bits.
use Rattle.std.proofs.Common.{◌≡◌, ℕ, ◌+◌, ◌<◌, ◌≤◌, ◌^◌, List, [], ◌∷◌, length, slice_index_or, refl, ap, arith}
use Rattle.std.specs.Prelude.{Some, All}
use Rattle.std.proofs.lemmas.List.{length-append}
use Rattle.std.proofs.lemmas.Option.{slice_get-get_or, slice_get_within, get_or_from_slice_get}
use Rattle.pad_text.specs.Text.{IsText}
use Rattle.pad_patch.specs.declared.operation.Operation.{Operation}
use Rattle.pad_patch.specs.declared.patch.Patch.{Patch}
use Rattle.pad_patch.specs.Piece.{end_of, text_after, inserted, insertions}
use Rattle.pad_transform.specs.Table.{through, transformed_all}
use Rattle.pad_transform.specs.Carried.{BothApply}
use Rattle.pad_transform.proofs.CallerLemmas.{Moved, behind, within, before, across, last_step, image_of, CanApply-moved}
use Rattle.pad_stroke.specs.Through.{joined}
use Rattle.pad_stroke.specs.Laws.{JointsFitWithin, JointsFitWithRoom}
use Rattle.pad_stroke.proofs.Carrying.{joint_of}

-- a joined operation ends where one of the operations ends
joints_fit : (operations : List Operation) → All (λ operation. end_of operation < 2 ^ 32) operations → All (λ (operation : Operation). operation.remove < 2 ^ 32) (joined operations)
joints_fit operations fit k default below =
    let joint = slice_index_or (joined operations) k default in
    let found = joint_of operations k joint (slice_get-get_or (joined operations) k default below) in
    let stands = get_or_from_slice_get operations found.last_index found.last found.last found.last_is in
    let end = fit found.last_index found.last (slice_get_within operations found.last_index found.last found.last_is) in
    omega (arith, found.ends, ap end_of stands)

-- the ends of the transformed operations fit
ends_fit_within : (patch by : Patch) (text : List ℕ) → BothApply patch by text → All (λ (operation : Operation). IsText operation.insert) by.ops → length (text_after by text) < 2 ^ 32
    → All (λ operation. end_of operation < 2 ^ 32) (transformed_all patch by)
ends_fit_within patch by text both texts short k default below =
    let moved : Patch = record { ops = transformed_all patch by; before = patch.before } in
    let can = CanApply-moved moved patch by refl text (λ some. texts) both in
    let operation = slice_index_or (transformed_all patch by) k default in
    let stands = slice_get-get_or (transformed_all patch by) k default below in
    let inside : length (text_after by text) < end_of operation → ⊥ = λ late. can.inside k (operation, stands, late) in
    omega arith

-- the end of an operation moves by no more than what the other one inserts
end_moved : (a b c : Operation) → Moved a b c → end_of c ≤ end_of a + length b.insert
end_moved a b c (behind late at same) = omega arith
end_moved a b c (within after most at same) = omega arith
end_moved a b c (before early apart at same) = omega arith
end_moved a b c (across early meets at same) = omega arith

end_through : (by : List Operation) (a c : Operation) → through by a ≡ Some c → end_of c ≤ end_of a + length (insertions by)
end_through [] a c is = let same : a ≡ c = cc in omega (arith, ap end_of same)
end_through (b ∷ later) a c is =
    let step = last_step a b later c is in
    let earlier = end_through later a step.earlier step.image in
    let last = end_moved step.earlier b c step.line in
    omega (arith, length-append b.insert (insertions later))

ends_fit_with_room : (patch by : Patch) → All (λ (operation : Operation). end_of operation + length (inserted by) < 2 ^ 32) patch.ops
    → All (λ operation. end_of operation < 2 ^ 32) (transformed_all patch by)
ends_fit_with_room patch by room k default below =
    let c = slice_index_or (transformed_all patch by) k default in
    let found = image_of by.ops patch.ops k c (slice_get-get_or (transformed_all patch by) k default below) in
    let stands = get_or_from_slice_get patch.ops found.index found.first found.first found.stands in
    let space = room found.index found.first (slice_get_within patch.ops found.index found.first found.stands) in
    let end = end_through by.ops found.first c found.image in
    omega (arith, ap end_of stands)

pub joints_fit_within : JointsFitWithin
joints_fit_within patch by text both texts short = joints_fit (transformed_all patch by) (ends_fit_within patch by text both texts short)

pub joints_fit_with_room : JointsFitWithRoom
joints_fit_with_room patch by room = joints_fit (transformed_all patch by) (ends_fit_with_room patch by room)
