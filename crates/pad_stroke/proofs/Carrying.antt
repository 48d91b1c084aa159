-- What a work is after it was carried over another patch.
use Rattle.std.proofs.Common.{◌≡◌, ℕ, zero, suc, ◌<◌, ◌≤◌, ◌⊎◌, inl, inr, Bool, true, false, cond, ◌&&◌, ◌==◌, List, [], ◌∷◌, length, refl, sym, ◌∙◌, ap, subst, arith}
use Rattle.std.specs.Prelude.{Option, Some, None, All, slice_get}
use Rattle.std.specs.Option.{option_and_then}
use Rattle.std.specs.List.{filter_map, cons_option}
use Rattle.std.proofs.lemmas.Bool.{eqb-false, cases_lt}
use Rattle.pad_text.specs.Text.{IsText, CutsPair}
use Rattle.pad_text.proofs.CallerLemmas.{IsText-append}
use Rattle.std.proofs.lemmas.List.Elements.{All-nil, All-cons, All-head, All-tail}
use Rattle.pad_text.specs.Hash.{document_hash}
use Rattle.pad_text.specs.declared.name.Name.{Name}
use Rattle.pad_patch.specs.declared.operation.Operation.{Operation}
use Rattle.pad_patch.specs.declared.patch.Patch.{Patch}
use Rattle.pad_patch.specs.declared.misfit.Misfit.TheVariants.{Order, Range, Pair, TooLong, BeforeHash}
use Rattle.pad_patch.specs.Piece.{end_of, inserted, insertions}
use Rattle.pad_patch.specs.Misfit.{Overlaps, CanApply}
use Rattle.pad_merge.specs.Merge.{IsNormal}
use Rattle.pad_transform.specs.Table.{adjusted, transformed, unless_noop, through, transformed_all}
use Rattle.pad_transform.specs.Carried.{FitsButLength, RemovesOnlyKept}
use Rattle.pad_stroke.specs.Through.{together, in_front, joined, carried}
use Rattle.pad_stroke.specs.Work.{Marked, IsWork}
use Rattle.pad_stroke.proofs.Joints.{IsFront, touching, apart, front_cases, insertions-joined, spaced-joined}
use Rattle.pad_merge.proofs.CallerLemmas.{IsSpaced, normal_spaced}
use Rattle.pad_transform.proofs.CallerLemmas.{insert-through}
use Rattle.pad_stroke.proofs.Normal.{AreNeeded, row_of, ordered_normal}

abbrev IsNeeded : Operation → Type 0
IsNeeded operation = (0 < operation.remove) ⊎ (0 < length operation.insert)

-- what a test of two tells
needed_by : (operation : Operation) (nothing_removed nothing_inserted : Bool) → (operation.remove == 0) ≡ nothing_removed → (length operation.insert == 0) ≡ nothing_inserted
    → (c : Operation) → cond (nothing_removed && nothing_inserted) None (Some operation) ≡ Some c → IsNeeded c
needed_by operation true true removes inserts c is = cc
needed_by operation true false removes inserts c is =
    let some : length operation.insert ≡ 0 → ⊥ = eqb-false (length operation.insert) 0 inserts in
    let same : operation ≡ c = cc in
    subst IsNeeded same (inr (omega arith))
needed_by operation false test removes inserts c is =
    let some : operation.remove ≡ 0 → ⊥ = eqb-false operation.remove 0 removes in
    let same : operation ≡ c = cc in
    subst IsNeeded same (inl (omega arith))

-- an operation that is not dropped is not empty
needed_unless : (operation c : Operation) → unless_noop operation ≡ Some c → IsNeeded c
needed_unless operation c is = needed_by operation (operation.remove == 0) (length operation.insert == 0) refl refl c is

needed_step : (b c : Operation) (o : Option Operation) → option_and_then (λ moved. transformed moved b) o ≡ Some c → IsNeeded c
needed_step b c None is = cc
needed_step b c (Some moved) is = needed_unless (adjusted moved b) c is

needed-through : (by : List Operation) (a c : Operation) → IsNeeded a → through by a ≡ Some c → IsNeeded c
needed-through [] a c needed is = let same : a ≡ c = cc in subst IsNeeded same needed
needed-through (b ∷ later) a c needed is = needed_step b c (through later a) is

needed_option : (by : List Operation) (o : Option Operation) (operations : List Operation) → ((c : Operation) → o ≡ Some c → IsNeeded c) → AreNeeded operations
    → AreNeeded (cons_option o operations)
needed_option by None operations first needed index c is = needed index c is
needed_option by (Some d) operations first needed zero c is = let same : d ≡ c = cc in subst IsNeeded same (first d refl)
needed_option by (Some d) operations first needed (suc index) c is = needed index c is

-- no operation is empty afterwards where none was
pub needed-transformed : (by operations : List Operation) → AreNeeded operations → AreNeeded (filter_map (through by) operations)
needed-transformed by [] needed = λ index c is. cc
needed-transformed by (a ∷ operations) needed =
    needed_option by (through by a) (filter_map (through by) operations)
    (λ c is. needed-through by a c (needed 0 a refl) is)
    (needed-transformed by operations (λ index operation is. needed (suc index) operation is))

-- a joined operation starts where one of the operations starts, and ends where one of them ends
pub record IsJoint (operations : List Operation) (joint : Operation) : Type 0 where
  pub first_index : ℕ
  pub first : Operation
  pub first_is : slice_get operations first_index ≡ Some first
  pub starts : joint.offset ≡ first.offset
  pub last_index : ℕ
  pub last : Operation
  pub last_is : slice_get operations last_index ≡ Some last
  pub ends : end_of joint ≡ end_of last

joint_later : (operation joint : Operation) (operations : List Operation) → IsJoint operations joint → IsJoint (operation ∷ operations) joint
joint_later operation joint operations found = record {
  first_index = suc found.first_index;
  first = found.first;
  first_is = found.first_is;
  starts = found.starts;
  last_index = suc found.last_index;
  last = found.last;
  last_is = found.last_is;
  ends = found.ends;
}

-- an operation alone is joined of itself
joint_alone : (operation joint : Operation) (operations : List Operation) → operation ≡ joint → IsJoint (operation ∷ operations) joint
joint_alone operation joint operations same = record {
  first_index = 0;
  first = operation;
  first_is = refl;
  starts = ap (λ (o : Operation). o.offset) (sym same);
  last_index = 0;
  last = operation;
  last_is = refl;
  ends = ap end_of (sym same);
}

joint_in_front : (operation : Operation) (operations later : List Operation)
    → ((index : ℕ) (joint : Operation) → slice_get later index ≡ Some joint → IsJoint operations joint)
    → (index : ℕ) (joint : Operation) → slice_get (in_front operation later) index ≡ Some joint → IsJoint (operation ∷ operations) joint
joint_in_front operation operations [] found zero joint is = joint_alone operation joint operations cc
joint_in_front operation operations [] found (suc index) joint is = cc
joint_in_front operation operations (next ∷ later) found index joint is =
    joint_by operation operations next later found index joint (front_cases operation next later) is
  where
    joint_at : (operation : Operation) (operations : List Operation) (next : Operation) (later : List Operation)
        → ((index : ℕ) (joint : Operation) → slice_get (next ∷ later) index ≡ Some joint → IsJoint operations joint) → end_of operation ≡ next.offset
        → (index : ℕ) (joint : Operation) → slice_get (together operation next ∷ later) index ≡ Some joint → IsJoint (operation ∷ operations) joint
    joint_at operation operations next later found same zero joint is =
        let there : together operation next ≡ joint = cc in
        let rest = found 0 next refl in
        record {
          first_index = 0;
          first = operation;
          first_is = refl;
          starts = ap (λ (o : Operation). o.offset) (sym there);
          last_index = suc rest.last_index;
          last = rest.last;
          last_is = rest.last_is;
          ends = omega (arith, ap end_of there, rest.ends, same);
        }
    joint_at operation operations next later found same (suc index) joint is = joint_later operation joint operations (found (suc index) joint is)

    joint_apart : (operation : Operation) (operations later : List Operation)
        → ((index : ℕ) (joint : Operation) → slice_get later index ≡ Some joint → IsJoint operations joint)
        → (index : ℕ) (joint : Operation) → slice_get (operation ∷ later) index ≡ Some joint → IsJoint (operation ∷ operations) joint
    joint_apart operation operations later found zero joint is = joint_alone operation joint operations cc
    joint_apart operation operations later found (suc index) joint is = joint_later operation joint operations (found index joint is)

    joint_by : (operation : Operation) (operations : List Operation) (next : Operation) (later : List Operation)
        → ((index : ℕ) (joint : Operation) → slice_get (next ∷ later) index ≡ Some joint → IsJoint operations joint)
        → (index : ℕ) (joint : Operation) → IsFront operation next later (in_front operation (next ∷ later))
        → slice_get (in_front operation (next ∷ later)) index ≡ Some joint → IsJoint (operation ∷ operations) joint
    joint_by operation operations next later found index joint (touching same front) is =
        joint_at operation operations next later found same index joint (ap (λ os. slice_get os index) (sym front) ∙ is)
    joint_by operation operations next later found index joint (apart other front) is =
        joint_apart operation operations (next ∷ later) found index joint (ap (λ os. slice_get os index) (sym front) ∙ is)

pub joint_of : (operations : List Operation) (index : ℕ) (joint : Operation) → slice_get (joined operations) index ≡ Some joint → IsJoint operations joint
joint_of [] index joint is = cc
joint_of (operation ∷ operations) index joint is =
    joint_in_front operation operations (joined operations) (λ i found is_found. joint_of operations i found is_found) index joint is

-- one of the operations removes the unit at a place
abbrev RemovesAt : List Operation → ℕ → Type 0
RemovesAt operations place =
    (index : ℕ) × (operation : Operation) × (slice_get operations index ≡ Some operation) × (operation.offset ≤ place) × (place < end_of operation)

removes_together : (operation next : Operation) (later : List Operation) (place : ℕ) → end_of operation ≡ next.offset
    → operation.offset ≤ place → place < end_of (together operation next) → ((operation.offset ≤ place) × (place < end_of operation)) ⊎ RemovesAt (next ∷ later) place
removes_together operation next later place same first last = elim (cases_lt place (end_of operation)) [
  | inl inside ↦ inl (first, inside)
  | inr behind ↦ inr (0, next, refl, omega arith, omega arith)
]

removes_front : (operation next : Operation) (later front : List Operation) (index place : ℕ) (joint : Operation) → IsFront operation next later front
    → slice_get front index ≡ Some joint → joint.offset ≤ place → place < end_of joint
    → ((operation.offset ≤ place) × (place < end_of operation)) ⊎ RemovesAt (next ∷ later) place
removes_front operation next later front zero place joint (touching same whole) is first last =
    let there : together operation next ≡ joint = cc in
    removes_together operation next later place same (omega (arith, ap (λ (o : Operation). o.offset) there)) (omega (arith, ap end_of there))
removes_front operation next later front (suc index) place joint (touching same whole) is first last =
    inr (suc index, joint, ap (λ os. slice_get os (suc index)) (sym whole) ∙ is, first, last)
removes_front operation next later front zero place joint (apart other whole) is first last =
    let there : operation ≡ joint = cc in
    inl (omega (arith, ap (λ (o : Operation). o.offset) there), omega (arith, ap end_of there))
removes_front operation next later front (suc index) place joint (apart other whole) is first last =
    inr (index, joint, ap (λ os. slice_get os (suc index)) (sym whole) ∙ is, first, last)

removes_in_front : (operation : Operation) (later : List Operation) (place : ℕ) → RemovesAt (in_front operation later) place
    → ((operation.offset ≤ place) × (place < end_of operation)) ⊎ RemovesAt later place
removes_in_front operation [] place (zero, joint, is, first, last) =
    let there : operation ≡ joint = cc in
    inl (omega (arith, ap (λ (o : Operation). o.offset) there), omega (arith, ap end_of there))
removes_in_front operation [] place (suc index, joint, is, first, last) = cc
removes_in_front operation (next ∷ later) place (index, joint, is, first, last) =
    removes_front operation next later (in_front operation (next ∷ later)) index place joint (front_cases operation next later) is first last

-- joined operations remove what the operations remove
pub removes_joined : (operations : List Operation) (place : ℕ) → RemovesAt (joined operations) place → RemovesAt operations place
removes_joined [] place removes = removes
removes_joined (operation ∷ operations) place removes = elim (removes_in_front operation (joined operations) place removes) [
  | inl here ↦ (0, operation, refl, here.0, here.1)
  | inr later ↦
      let rest = removes_joined operations place later in
      (suc rest.0, rest.1, rest.2, rest.3, rest.4)
]

-- a patch can be applied with its operations joined, where they are in normal form then
CanApply-joined : (moved result : Patch) (text : List ℕ) → result.ops ≡ joined moved.ops → IsNormal result → CanApply moved text → CanApply result text
CanApply-joined moved result text is normal can =
    let found : (index : ℕ) (joint : Operation) → slice_get result.ops index ≡ Some joint → IsJoint moved.ops joint =
    λ index joint is_joint. joint_of moved.ops index joint (ap (λ os. slice_get os index) (sym is) ∙ is_joint) in
    record {
      ordered = ordered_normal result normal;
      inside = λ index (joint, is_joint, late).
          let joint_is = found index joint is_joint in
          can.inside joint_is.last_index (joint_is.last, joint_is.last_is, omega (arith, joint_is.ends));
      whole = λ index (joint, is_joint, cut).
          let joint_is = found index joint is_joint in
          elim cut [
            | inl starts ↦ can.whole joint_is.first_index (joint_is.first, joint_is.first_is, inl (subst (CutsPair text) joint_is.starts starts))
            | inr ends ↦ can.whole joint_is.last_index (joint_is.last, joint_is.last_is, inr (subst (CutsPair text) joint_is.ends ends))
          ];
    }

fits_applies : (patch : Patch) (text : List ℕ) → CanApply patch text → patch.before ≡ document_hash text → FitsButLength patch text
fits_applies patch text can same (Order index) is = absurd (can.ordered index is)
fits_applies patch text can same (Range index) is = absurd (can.inside index is)
fits_applies patch text can same (Pair index) is = absurd (can.whole index is)
fits_applies patch text can same TooLong is = refl
fits_applies patch text can same BeforeHash is = absurd (is same)

abbrev pub InsertsText : Operation → Type 0
InsertsText operation = IsText operation.insert

-- transformed operations insert texts if the operations did
texts_option : (by : List Operation) (a : Operation) (o : Option Operation) (operations : List Operation) → through by a ≡ o → IsText a.insert → All InsertsText operations
    → All InsertsText (cons_option o operations)
texts_option by a None operations is text rest = rest
texts_option by a (Some c) operations is text rest = All-cons InsertsText c operations (subst IsText (sym (insert-through by a c is)) text) rest

pub texts-transformed : (by operations : List Operation) → All InsertsText operations → All InsertsText (filter_map (through by) operations)
texts-transformed by [] all = All-nil InsertsText
texts-transformed by (a ∷ operations) all =
    texts_option by a (through by a) (filter_map (through by) operations) refl (All-head InsertsText a operations all) (texts-transformed by operations (All-tail InsertsText a operations all))

texts_by : (operation next : Operation) (later front : List Operation) → IsFront operation next later front → IsText operation.insert → All InsertsText (next ∷ later) → All InsertsText front
texts_by operation next later front (touching same is) text rest =
    subst (All InsertsText) (sym is)
    (All-cons InsertsText (together operation next) later (IsText-append operation.insert next.insert text (All-head InsertsText next later rest)) (All-tail InsertsText next later rest))
texts_by operation next later front (apart other is) text rest = subst (All InsertsText) (sym is) (All-cons InsertsText operation (next ∷ later) text rest)

texts_in_front : (operation : Operation) (later : List Operation) → IsText operation.insert → All InsertsText later → All InsertsText (in_front operation later)
texts_in_front operation [] text rest = All-cons InsertsText operation [] text rest
texts_in_front operation (next ∷ later) text rest = texts_by operation next later (in_front operation (next ∷ later)) (front_cases operation next later) text rest

-- and so do joined ones
pub texts-joined : (operations : List Operation) → All InsertsText operations → All InsertsText (joined operations)
texts-joined [] all = All-nil InsertsText
texts-joined (operation ∷ operations) all =
    texts_in_front operation (joined operations) (All-head InsertsText operation operations all) (texts-joined operations (All-tail InsertsText operation operations all))

-- the work on the text after `by`, of which `moved` has the operations one by one
module _ (work : Marked) (by moved : Patch) (after : Name) (is_work : IsWork work) (is : moved.ops ≡ transformed_all work.patch by)
    (ordered : ((index : ℕ) → ¬ (Overlaps work.patch index)) → (index : ℕ) → ¬ (Overlaps moved index)) where
  result_is : (carried work by after).patch.ops ≡ joined moved.ops
  unfolding carried
  result_is = ap joined (sym is)

  needed : AreNeeded moved.ops
  needed = subst AreNeeded (sym is) (needed-transformed by.ops work.patch.ops is_work.normal.needed)

  normal : IsNormal (carried work by after).patch
  normal =
      normal_spaced (carried work by after).patch
      (subst (IsSpaced 0) (sym result_is) (spaced-joined 0 moved.ops (row_of moved (ordered (ordered_normal work.patch is_work.normal)) needed)))

  pub inserted-carried : inserted moved ≡ inserted work.patch → inserted (carried work by after).patch ≡ inserted work.patch
  inserted-carried same = ap insertions result_is ∙ insertions-joined moved.ops ∙ same

  pub IsWork-carried : inserted moved ≡ inserted work.patch → IsWork (carried work by after)
  unfolding carried
  IsWork-carried same = record {
    normal = normal;
    texts = texts-joined (transformed_all work.patch by) (texts-transformed by.ops work.patch.ops is_work.texts);
    counted = is_work.counted ∙ ap length (sym (inserted-carried same));
  }

  pub CanApply-carried : (text : List ℕ) → CanApply moved text → CanApply (carried work by after).patch text
  CanApply-carried text can = CanApply-joined moved (carried work by after).patch text result_is normal can

  pub fits-carried : (text : List ℕ) → CanApply moved text → after ≡ document_hash text → FitsButLength (carried work by after).patch text
  unfolding carried
  fits-carried text can same = fits_applies (carried work by after).patch text (CanApply-carried text can) same

  pub removals-carried : (text : List ℕ) → RemovesOnlyKept moved work.patch by text → RemovesOnlyKept (carried work by after).patch work.patch by text
  removals-carried text kept place (index, joint, is_joint, first, last) =
      let removes = removes_joined moved.ops place (index, joint, ap (λ os. slice_get os index) (sym result_is) ∙ is_joint, first, last) in
      kept place (removes.0, removes.1, removes.2, removes.3, removes.4)

-- the fields of a work that was carried
pub carried_is : (work : Marked) (by moved : Patch) (after : Name) (ops : List Operation) → ops ≡ joined moved.ops → moved.ops ≡ transformed_all work.patch by → moved.before ≡ after
    → record { patch = record { ops = ops; before = moved.before }; marks = work.marks } ≡ carried work by after
unfolding carried
carried_is work by moved after ops joints is hash =
    let patch_of : List Operation → Name → Marked = λ os name. record { patch = record { ops = os; before = name }; marks = work.marks } in
    ap (λ os. patch_of os moved.before) (joints ∙ ap joined is) ∙ ap (patch_of (joined (transformed_all work.patch by))) hash
