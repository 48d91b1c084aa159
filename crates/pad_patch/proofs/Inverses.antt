-- The inverse of a patch gives the text back.
use Rattle.std.proofs.Common.{◌≡◌, ℕ, zero, suc, ◌+◌, ◌-◌, ◌<◌, ◌≤◌, List, [], ◌∷◌, ◌++◌, length, drop, refl, sym, ◌∙◌, ap, subst, arith, append_assoc, add-one, drop-cons, slice_index_or, inl, inr}
use Rattle.std.specs.Prelude.{Some, All, slice_get}
use Rattle.std.proofs.lemmas.List.{length-append, length-take-le, length-drop}
use Rattle.std.proofs.lemmas.Option.{get_or_from_slice_get}
use Rattle.std.proofs.lemmas.Bool.{cases_lt}
use Rattle.pad_text.specs.Text.{IsText, CutsPair}
use Rattle.pad_text.specs.declared.name.Name.{Name}
use Rattle.pad_text.proofs.CallerLemmas.{IsText-append, seam-cuts_none}
use Rattle.pad_patch.specs.declared.operation.Operation.{Operation}
use Rattle.pad_patch.specs.declared.patch.Patch.{Patch}
use Rattle.pad_patch.specs.Piece.{end_of, patched, inserted, text_after}
use Rattle.pad_patch.specs.UnitStore.{between}
use Rattle.pad_patch.specs.Inverse.{inverse, inverse_operation, inverse_operations}
use Rattle.pad_patch.specs.Misfit.{Overlaps, EndsAfter, CanApply}
use Rattle.pad_patch.proofs.Laid.{IsLaid, laid}
use Rattle.pad_patch.proofs.Undone.{moved, inverse_end, patched-inverse, inserted-inverse_operations}
use Rattle.pad_patch.proofs.Copies.{copy_from, text_after-copy, Whole, InsertsTexts, InsertsTexts-all, IsText-copy_from, CanApply-laid}

-- what the copy is made of up to an operation, and from there on
pub record IsCut (text copy front : List ℕ) (inserted removed place : ℕ) (operations : List Operation) : Type 0 where
  pub whole : copy ≡ front ++ copy_from text place operations
  pub at : length front ≡ moved inserted removed place
  pub below : removed ≤ place

-- the parts of the copy around its next operation
abbrev pub front_of : List ℕ → List ℕ → ℕ → Operation → List ℕ
front_of text front place operation = (front ++ between place operation.offset text) ++ operation.insert

pub kept_size : (text : List ℕ) (place : ℕ) (operation : Operation) → end_of operation ≤ length text → length (between place operation.offset text) ≡ operation.offset - place
kept_size text place operation inside =
    length-take-le (operation.offset - place) (drop place text) (omega (arith, inside, length-drop place text))

pub next : (text copy front : List ℕ) (inserted removed place : ℕ) (operation : Operation) (operations : List Operation)
    → place ≤ operation.offset → end_of operation ≤ length text → IsCut text copy front inserted removed place (operation ∷ operations)
    → IsCut text copy (front_of text front place operation) (inserted + length operation.insert) (removed + operation.remove) (end_of operation) operations
next text copy front inserted removed place operation operations starts inside cut =
    let kept = between place operation.offset text in
    let rest = copy_from text (end_of operation) operations in
    record {
      whole = cut.whole ∙ sym (append_assoc (front ++ kept) operation.insert rest ∙ append_assoc front kept (operation.insert ++ rest));
      at = omega (arith, length-append (front ++ kept) operation.insert, length-append front kept, kept_size text place operation inside, cut.at, cut.below);
      below = omega (arith, cut.below);
    }

-- the length of the copy is that of its front and of the rest
sizes : (text copy front : List ℕ) (inserted removed place : ℕ) (operations : List Operation) → IsCut text copy front inserted removed place operations
    → length copy ≡ moved inserted removed place + length (copy_from text place operations)
sizes text copy front inserted removed place operations cut =
    ap length cut.whole ∙ length-append front (copy_from text place operations) ∙ ap (λ n. n + length (copy_from text place operations)) cut.at

-- the inverse stands in order in the copy
pub laid_inverse : (text copy front : List ℕ) (inserted removed place : ℕ) (operations : List Operation)
    → IsLaid place (length text) operations → IsCut text copy front inserted removed place operations
    → IsLaid (moved inserted removed place) (length copy) (inverse_operations inserted removed text operations)
laid_inverse text copy front inserted removed place [] laid_out cut = omega (arith, sizes text copy front inserted removed place [] cut)
laid_inverse text copy front inserted removed place (operation ∷ operations) (starts, inside, rest) cut =
    let inserted_next = inserted + length operation.insert in
    let removed_next = removed + operation.remove in
    let end = inverse_end inserted removed place operation starts cut.below in
    let cut_next = next text copy front inserted removed place operation operations starts inside cut in
    let later = laid_inverse text copy (front_of text front place operation) inserted_next removed_next (end_of operation) operations rest cut_next in
    let size = sizes text copy (front_of text front place operation) inserted_next removed_next (end_of operation) operations cut_next in (
      omega (arith, cut.below),
      omega (arith, end, size),
      subst (λ n. IsLaid n (length copy) (inverse_operations inserted_next removed_next text operations)) (sym end) later,
    )

-- no pair is cut where a text begins behind other units
whole_before : (xs ys zs : List ℕ) (place : ℕ) → zs ≡ xs ++ ys → length xs ≡ place → IsText ys → ¬ (CutsPair zs place)
whole_before xs ys zs place is at text cut =
    seam-cuts_none xs ys text (subst (CutsPair (xs ++ ys)) (sym at) (subst (λ us. CutsPair us place) is cut))

-- the inverse cuts no pair of the copy
whole_inverse : (text copy front : List ℕ) (inserted removed place : ℕ) (operations : List Operation)
    → IsText text → IsLaid place (length text) operations → Whole text operations → InsertsTexts operations → IsCut text copy front inserted removed place operations
    → Whole copy (inverse_operations inserted removed text operations)
whole_inverse text copy front inserted removed place [] is_text laid_out whole inserts cut index operation is = cc
whole_inverse text copy front inserted removed place (operation ∷ operations) is_text (starts, inside, rest) whole inserts cut zero inverted is =
    let same : inverse_operation inserted removed text operation ≡ inverted = cc in
    let kept = between place operation.offset text in
    let later = copy_from text (end_of operation) operations in
    let insert_text = inserts 0 operation refl in
    let later_text = IsText-copy_from text (end_of operation) operations is_text (whole 0 operation refl).1
    (λ index last is_last. whole (suc index) last is_last) (λ index last is_last. inserts (suc index) last is_last) in
    let cut_next = next text copy front inserted removed place operation operations starts inside cut in
    let end = inverse_end inserted removed place operation starts cut.below in
    let at_offset : copy ≡ (front ++ kept) ++ (operation.insert ++ later) = cut.whole ∙ sym (append_assoc front kept (operation.insert ++ later)) in
    let offset_size : length (front ++ kept) ≡ operation.offset + inserted - removed =
    omega (arith, length-append front kept, kept_size text place operation inside, cut.at, cut.below) in
    let starts_whole = whole_before (front ++ kept) (operation.insert ++ later) copy (operation.offset + inserted - removed) at_offset offset_size
    (IsText-append operation.insert later insert_text later_text) in
    let ends_whole = whole_before (front_of text front place operation) later copy (operation.offset + inserted - removed + length operation.insert) cut_next.whole
    (cut_next.at ∙ sym end) later_text in
    subst (λ (o : Operation). (¬ (CutsPair copy o.offset)) × (¬ (CutsPair copy (end_of o)))) same (starts_whole, ends_whole)
whole_inverse text copy front inserted removed place (operation ∷ operations) is_text (starts, inside, rest) whole inserts cut (suc index) inverted is =
    whole_inverse text copy (front_of text front place operation) (inserted + length operation.insert) (removed + operation.remove) (end_of operation) operations
    is_text rest (λ i last is_last. whole (suc i) last is_last) (λ i last is_last. inserts (suc i) last is_last)
    (next text copy front inserted removed place operation operations starts inside cut) index inverted is

-- the whole copy
pub first : (patch : Patch) (text : List ℕ) → IsCut text (text_after patch text) [] 0 0 0 patch.ops
first patch text = record { whole = text_after-copy patch text; at = refl; below = omega arith }

-- the inverse gives the text back
pub text_after-inverse : (patch : Patch) (text : List ℕ) → ((index : ℕ) → ¬ (Overlaps patch index)) → ((index : ℕ) → ¬ (EndsAfter patch (length text) index))
    → text_after (inverse patch text) (text_after patch text) ≡ text
unfolding text_after inverse
text_after-inverse patch text ordered inside =
    ap (λ new. patched (inverse patch text) new (text_after patch text)) (sym (inserted-inverse_operations 0 0 text patch.ops))
    ∙ patched-inverse patch text (inserted patch) text ordered inside refl refl

whole_of : (patch : Patch) (text : List ℕ) → CanApply patch text → Whole text patch.ops
whole_of patch text can index operation is =
    (λ cut. can.whole index (operation, is, inl cut), λ cut. can.whole index (operation, is, inr cut))

-- the inverse can be applied to the text after the patch
pub CanApply-inverse : (patch : Patch) (text : List ℕ) → IsText text → InsertsTexts patch.ops → CanApply patch text
    → CanApply (inverse patch text) (text_after patch text)
unfolding inverse
CanApply-inverse patch text is_text inserts can =
    let laid_out = laid patch (length text) can.ordered can.inside in
    CanApply-laid (inverse patch text) (text_after patch text)
    (laid_inverse text (text_after patch text) [] 0 0 0 patch.ops laid_out (first patch text))
    (whole_inverse text (text_after patch text) [] 0 0 0 patch.ops is_text laid_out (whole_of patch text can) inserts (first patch text))

-- one operation for each operation
pub length-inverse_operations : (inserted removed : ℕ) (text : List ℕ) (operations : List Operation) → length (inverse_operations inserted removed text operations) ≡ length operations
length-inverse_operations inserted removed text [] = refl
length-inverse_operations inserted removed text (operation ∷ operations) =
    ap suc (length-inverse_operations (inserted + length operation.insert) (removed + operation.remove) text operations)

-- how far the inverse has come: what is known where these operations are left
pub record IsInverting (text copy : List ℕ) (inserted removed : ℕ) (left : List Operation) : Type 0 where
  pub place : ℕ
  pub front : List ℕ
  pub laid_out : IsLaid place (length text) left
  pub cut : IsCut text copy front inserted removed place left

pub inverting_first : (patch : Patch) (text : List ℕ) → CanApply patch text → IsInverting text (text_after patch text) 0 0 patch.ops
inverting_first patch text can = record { place = 0; front = []; laid_out = laid patch (length text) can.ordered can.inside; cut = first patch text }

pub inverting_next : (text copy : List ℕ) (inserted removed : ℕ) (operation : Operation) (left : List Operation) → IsInverting text copy inserted removed (operation ∷ left)
    → IsInverting text copy (inserted + length operation.insert) (removed + operation.remove) left
inverting_next text copy inserted removed operation left state = record {
  place = end_of operation;
  front = front_of text state.front state.place operation;
  laid_out = state.laid_out.2;
  cut = next text copy state.front inserted removed state.place operation left state.laid_out.0 state.laid_out.1 state.cut;
}

-- the numbers of one step
pub record IsBounded (text copy : List ℕ) (inserted removed : ℕ) (operation : Operation) : Type 0 where
  pub inserted_small : inserted ≤ length copy
  pub removed_small : removed ≤ operation.offset
  pub offset_small : operation.offset ≤ length text
  pub end_small : operation.offset + inserted - removed + length operation.insert ≤ length copy

pub inverting_bounds : (text copy : List ℕ) (inserted removed : ℕ) (operation : Operation) (left : List Operation) → IsInverting text copy inserted removed (operation ∷ left)
    → IsBounded text copy inserted removed operation
inverting_bounds text copy inserted removed operation left state =
    let cut_next = next text copy state.front inserted removed state.place operation left state.laid_out.0 state.laid_out.1 state.cut in
    let end = inverse_end inserted removed state.place operation state.laid_out.0 state.cut.below in
    let size = sizes text copy (front_of text state.front state.place operation) (inserted + length operation.insert) (removed + operation.remove) (end_of operation) left cut_next in
    let size_now = sizes text copy state.front inserted removed state.place (operation ∷ left) state.cut in
    record {
      inserted_small = omega (arith, size_now, state.cut.below);
      removed_small = omega (arith, state.cut.below, state.laid_out.0);
      offset_small = omega (arith, state.laid_out.1);
      end_small = omega (arith, end, size);
    }

abbrev pub operation_of : ℕ → ℕ → List ℕ → Operation
operation_of offset remove insert = record { offset = offset; remove = remove; insert = insert }

-- operations with the same fields are one
pub same_operation : (first second : Operation) → first.offset ≡ second.offset → first.remove ≡ second.remove → first.insert ≡ second.insert → first ≡ second
same_operation first second offsets removes inserts =
    ap (λ n. operation_of n first.remove first.insert) offsets
    ∙ ap (λ n. operation_of second.offset n first.insert) removes
    ∙ ap (λ xs. operation_of second.offset second.remove xs) inserts

abbrev pub patch_of : List Operation → Name → Patch
patch_of operations name = record { ops = operations; before = name }

-- patches with the same fields are one
pub same_patch : (first second : Patch) → first.ops ≡ second.ops → first.before ≡ second.before → first ≡ second
same_patch first second operations names =
    ap (λ os. patch_of os first.before) operations ∙ ap (λ name. patch_of second.ops name) names

-- the operations from an index on are the one there and the later ones
pub drop-operation : (items : List Operation) (index : ℕ) (operation : Operation) → index < length items → operation ≡ slice_index_or items index operation
    → drop index items ≡ operation ∷ drop (index + 1) items
drop-operation items index operation within is =
    drop-cons items index operation within ∙ ap (λ o. o ∷ drop (suc index) items) (sym is) ∙ ap (λ n. operation ∷ drop n items) (sym (add-one index))

-- one more operation of the inverse is built
pub built_next : (text : List ℕ) (inserted removed : ℕ) (operation pushed : Operation) (left before after : List Operation)
    → after ≡ before ++ pushed ∷ [] → pushed ≡ inverse_operation inserted removed text operation
    → after ++ inverse_operations (inserted + length operation.insert) (removed + operation.remove) text left ≡ before ++ inverse_operations inserted removed text (operation ∷ left)
built_next text inserted removed operation pushed left before after grown is =
    let rest = inverse_operations (inserted + length operation.insert) (removed + operation.remove) text left in
    ap (λ xs. xs ++ rest) grown ∙ append_assoc before (pushed ∷ []) rest ∙ ap (λ o. before ++ o ∷ rest) is

-- each operation up to an index, and the one there, inserts a text
pub texts_next : (items : List Operation) (index : ℕ) (operation : Operation) → operation ≡ slice_index_or items index operation → IsText operation.insert
    → ((k : ℕ) (o : Operation) → k < index → slice_get items k ≡ Some o → IsText o.insert)
    → (k : ℕ) (o : Operation) → k < index + 1 → slice_get items k ≡ Some o → IsText o.insert
texts_next items index operation is text below k o within stands = elim (cases_lt k index) [
  | inl earlier ↦ below k o earlier stands
  | inr last ↦
      let here : k ≡ index = omega arith in
      subst (λ (p : Operation). IsText p.insert) (is ∙ ap (λ n. slice_index_or items n operation) (sym here) ∙ get_or_from_slice_get items k o operation stands) text
]

-- one operation for each operation of a patch
pub length-inverse : (patch : Patch) (text : List ℕ) → length (inverse patch text).ops ≡ length patch.ops
unfolding inverse
length-inverse patch text = length-inverse_operations 0 0 text patch.ops

-- the same, with the insertions as all of a list
pub CanApply-inverse_all : (patch : Patch) (text : List ℕ) → IsText text → All (λ (operation : Operation). IsText operation.insert) patch.ops → CanApply patch text
    → CanApply (inverse patch text) (text_after patch text)
CanApply-inverse_all patch text is_text inserts can = CanApply-inverse patch text is_text (InsertsTexts-all patch.ops inserts) can
