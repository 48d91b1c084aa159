-- What the inverse of a patch inserts are texts.
use Rattle.std.proofs.Common.{ℕ, suc, ◌+◌, ◌≤◌, List, [], ◌∷◌, length, refl, arith, inl, inr}
use Rattle.std.specs.Prelude.{All}
use Rattle.std.proofs.lemmas.List.Elements.{All-nil, All-cons}
use Rattle.pad_text.specs.Text.{IsText}
use Rattle.pad_text.proofs.CallerLemmas.{IsText-between}
use Rattle.pad_patch.specs.declared.operation.Operation.{Operation}
use Rattle.pad_patch.specs.declared.patch.Patch.{Patch}
use Rattle.pad_patch.specs.Piece.{end_of}
use Rattle.pad_patch.specs.Inverse.{inverse, inverse_operation, inverse_operations}
use Rattle.pad_patch.specs.Misfit.{CanApply}
use Rattle.pad_patch.proofs.Copies.{Whole}

abbrev InsertsText : Operation → Type 0
InsertsText operation = IsText operation.insert

texts_back : (inserted removed : ℕ) (text : List ℕ) (operations : List Operation) → IsText text → Whole text operations → All InsertsText (inverse_operations inserted removed text operations)
texts_back inserted removed text [] is_text whole = All-nil InsertsText
texts_back inserted removed text (operation ∷ operations) is_text whole =
    let ends = whole 0 operation refl in
    let order : operation.offset ≤ end_of operation = omega arith in
    let inserted_next = inserted + length operation.insert in
    let removed_next = removed + operation.remove in
    All-cons InsertsText (inverse_operation inserted removed text operation) (inverse_operations inserted_next removed_next text operations)
    (IsText-between text operation.offset (end_of operation) is_text order ends.0 ends.1)
    (texts_back inserted_next removed_next text operations is_text (λ index later is. whole (suc index) later is))

pub texts-inverse : (patch : Patch) (text : List ℕ) → IsText text → CanApply patch text → All InsertsText (inverse patch text).ops
unfolding inverse
texts-inverse patch text is_text can =
    texts_back 0 0 text patch.ops is_text (λ index operation is. (λ cut. can.whole index (operation, is, inl cut), λ cut. can.whole index (operation, is, inr cut)))
