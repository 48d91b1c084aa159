-- A transformed patch fits the changed text, and takes nothing of the other one's.
use Rattle.std.proofs.Common.{◌≡◌, ℕ, zero, suc, ◌<◌, inl, inr, List, [], ◌∷◌, length, All, get_or, refl, sym, ◌∙◌, ap, subst, arith}
use Rattle.std.specs.Prelude.{Some, None, slice_get}
use Rattle.std.proofs.lemmas.List.Elements.{All-head, All-tail}
use Rattle.pad_text.specs.Text.{IsText}
use Rattle.pad_text.specs.Hash.{document_hash}
use Rattle.pad_patch.specs.declared.operation.Operation.{Operation}
use Rattle.pad_patch.specs.declared.patch.Patch.{Patch}
use Rattle.pad_patch.specs.declared.misfit.Misfit.TheVariants.{Order, Range, Pair, TooLong, BeforeHash}
use Rattle.pad_patch.specs.Piece.{end_of, text_after, inserted}
use Rattle.pad_patch.specs.Misfit.{CanApply}
use Rattle.pad_patch.specs.Removed.{old_places}
use Rattle.pad_patch.specs.UnitStore.{IsRange}
use Rattle.pad_patch.proofs.CallerLemmas.{IsLaid, laid, text_after-copy}
use Rattle.pad_patch.proofs.CallerLemmas.{Whole, InsertsTexts}
use Rattle.pad_transform.specs.Table.{transformed_all}
use Rattle.pad_transform.specs.Carried.{BothApply, FitsButLength, RemovesOnlyKept}
use Rattle.pad_transform.proofs.Cases.{joined-through, joined}
use Rattle.pad_transform.proofs.Order.{IsImage, image_of, ordered-through}
use Rattle.pad_transform.proofs.Ranges.{AreNext-laid, IsRange-through}
use Rattle.pad_transform.proofs.OldPlaces.{kept-through, old_places-pieces, get_of}

-- each insertion of a list of operations is a text
abbrev pub AllTexts : List Operation → Type 0
AllTexts operations = All (λ (operation : Operation). IsText operation.insert) operations

inserts_of : (operations : List Operation) → AllTexts operations → InsertsTexts operations
inserts_of [] all index operation is = cc
inserts_of (first ∷ operations) all zero operation is =
    let same : first ≡ operation = cc in
    subst (λ (o : Operation). IsText o.insert) same (All-head (λ (o : Operation). IsText o.insert) first operations all)
inserts_of (first ∷ operations) all (suc index) operation is =
    inserts_of operations (All-tail (λ (o : Operation). IsText o.insert) first operations all) index operation is

some_of : (operations : List Operation) (index : ℕ) (operation : Operation) → slice_get operations index ≡ Some operation → 0 < length operations
some_of [] index operation is = cc
some_of (first ∷ operations) index operation is = omega arith

whole_of : (patch : Patch) (text : List ℕ) → CanApply patch text → Whole text patch.ops
whole_of patch text can index operation is = (λ cut. can.whole index (operation, is, inl cut), λ cut. can.whole index (operation, is, inr cut))

range_of : (patch : Patch) (text : List ℕ) (index : ℕ) (operation : Operation) → CanApply patch text → slice_get patch.ops index ≡ Some operation
    → IsRange text operation.offset (end_of operation)
range_of patch text index operation can is =
    let ends = whole_of patch text can index operation is in
    let late : length text < end_of operation → ⊥ = λ past. can.inside index (operation, is, past) in
    record { ordered = omega arith; inside = omega arith; starts_whole = ends.0; ends_whole = ends.1 }

laid_of : (patch : Patch) (text : List ℕ) → CanApply patch text → IsLaid 0 (length text) patch.ops
laid_of patch text can = laid patch (length text) can.ordered can.inside

-- a patch whose operations are those of `patch`, each by those of `by`
module _ (moved patch by : Patch) (is : moved.ops ≡ transformed_all patch by) where
  found_of : (index : ℕ) (c : Operation) → slice_get moved.ops index ≡ Some c → IsImage by.ops patch.ops c
  found_of index c stands = image_of by.ops patch.ops index c (ap (λ os. slice_get os index) (sym is) ∙ stands)

  pub inserted-moved : inserted moved ≡ inserted patch
  inserted-moved = ap joined is ∙ joined-through by.ops patch.ops

  range_after : (text : List ℕ) (index : ℕ) (c : Operation) → AllTexts by.ops → BothApply patch by text → slice_get moved.ops index ≡ Some c
      → IsRange (text_after by text) c.offset (end_of c)
  range_after text index c texts both stands =
      let found = found_of index c stands in
      let others = both.other_applies in
      subst (λ us. IsRange us c.offset (end_of c)) (sym (text_after-copy by text))
      (IsRange-through text by.ops found.first c both.is_text
      (AreNext-laid text 0 by.ops (laid_of by text others) (whole_of by text others) (inserts_of by.ops texts))
      (range_of patch text found.index found.first both.patch_applies found.stands) found.image)

  pub CanApply-moved : (text : List ℕ) → (0 < length moved.ops → AllTexts by.ops) → BothApply patch by text → CanApply moved (text_after by text)
  CanApply-moved text texts both =
      let range : (index : ℕ) (c : Operation) → slice_get moved.ops index ≡ Some c → IsRange (text_after by text) c.offset (end_of c) =
      λ index c stands. range_after text index c (texts (some_of moved.ops index c stands)) both stands in
      record {
        ordered = ordered-through moved patch by.ops is both.patch_applies.ordered;
        inside = λ index (c, stands, late). let inside = (range index c stands).inside in absurd (omega arith);
        whole = λ index (c, stands, cut). elim cut [
          | inl starts ↦ (range index c stands).starts_whole starts
          | inr ends ↦ (range index c stands).ends_whole ends
        ];
      }

  pub RemovesOnlyKept-moved : (text : List ℕ) → BothApply patch by text → RemovesOnlyKept moved patch by text
  RemovesOnlyKept-moved text both place (index, c, stands, first, last) =
      let found = found_of index c stands in
      let range = range_of patch text found.index found.first both.patch_applies found.stands in
      let kept = kept-through by.ops 0 (length text) found.first c (laid_of by text both.other_applies) range.inside found.image place first last in
      let there = ap (λ xs. get_or xs place None) (old_places-pieces by (length text) (laid_of by text both.other_applies)) ∙ kept.stood in
      (kept.old, get_of (old_places by (length text)) place kept.old there, (found.index, found.first, found.stands, kept.from, kept.below))

-- a patch that can be applied and has the hash of the text fits it but for its length
pub FitsButLength-applies : (patch : Patch) (text : List ℕ) → CanApply patch text → patch.before ≡ document_hash text → FitsButLength patch text
FitsButLength-applies patch text can same (Order index) is = absurd (can.ordered index is)
FitsButLength-applies patch text can same (Range index) is = absurd (can.inside index is)
FitsButLength-applies patch text can same (Pair index) is = absurd (can.whole index is)
FitsButLength-applies patch text can same TooLong is = refl
FitsButLength-applies patch text can same BeforeHash is = absurd (is same)
