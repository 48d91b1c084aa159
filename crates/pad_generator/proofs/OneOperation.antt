-- Patches of one operation on texts of letters.
use Rattle.std.proofs.Common.{◌≡◌, ℕ, ◌+◌, ◌≤◌, List, [], ◌∷◌, ◌++◌, length, take, drop, ◌∙◌, ap, refl, arith}
use Rattle.std.proofs.lemmas.List.{length-append, length-take-le, length-drop}
use Rattle.pad_text.specs.declared.name.Name.{Name}
use Rattle.pad_text.specs.Hash.{document_hash}
use Rattle.pad_patch.specs.declared.operation.Operation.{Operation}
use Rattle.pad_patch.specs.declared.patch.Patch.{Patch}
use Rattle.pad_patch.specs.declared.misfit.Misfit.TheVariants.{Order, Range, Pair, TooLong, BeforeHash}
use Rattle.pad_patch.specs.Piece.{end_of, text_after}
use Rattle.pad_patch.specs.UnitStore.{replaced}
use Rattle.pad_patch.specs.Misfit.{CanApply, Fits, IsMisfit, longest_text}
use Rattle.pad_patch.proofs.CallerLemmas.{IsNext, CanApply-laid, text_after-copy, copy_from-none, copy_from-replaced}
use Rattle.pad_generator.specs.Inside.Letters.{AreLetters}
use Rattle.pad_generator.proofs.Letters.{letters_cut}

-- the patch with this operation alone
abbrev pub patch_of : Name → Operation → Patch
patch_of before operation = record { ops = operation ∷ []; before = before }

module _ (before : Name) (operation : Operation) (text : List ℕ) (inside : end_of operation ≤ length text) where
  pub one_after : AreLetters text → text_after (patch_of before operation) text ≡ replaced operation.offset (end_of operation) operation.insert text
  one_after letters =
      let next : IsNext text operation [] = record {
        inside = inside;
        laid_out = inside;
        starts_whole = letters_cut text operation.offset letters;
        ends_whole = letters_cut text (end_of operation) letters;
      } in
      text_after-copy (patch_of before operation) text ∙ copy_from-replaced text operation [] next
      ∙ ap (λ copy. replaced operation.offset (end_of operation) operation.insert copy) (copy_from-none text)

  pub one_applies : AreLetters text → CanApply (patch_of before operation) text
  one_applies letters =
      CanApply-laid (patch_of before operation) text (omega arith, inside, inside)
      (λ index other is. (letters_cut text other.offset letters, letters_cut text (end_of other) letters))

  pub length_after_one : length (replaced operation.offset (end_of operation) operation.insert text) + operation.remove ≡ length text + length operation.insert
  length_after_one =
      let start : operation.offset ≤ length text = omega (arith, inside) in
      omega (
        arith,
        length-append (take operation.offset text ++ operation.insert) (drop (end_of operation) text),
        length-append (take operation.offset text) operation.insert,
        length-take-le operation.offset text start,
        length-drop (end_of operation) text,
        inside,
      )

-- it fits, where the text after it is not too long and its hash is the text's
pub one_fits : (operation : Operation) (text : List ℕ) → end_of operation ≤ length text → AreLetters text
    → length (text_after (patch_of (document_hash text) operation) text) ≤ longest_text → Fits (patch_of (document_hash text) operation) text
unfolding Fits
one_fits operation text inside letters short misfit = elim misfit as (λ m. ¬ (IsMisfit (patch_of (document_hash text) operation) text m)) [
  | Order index ↦ can.ordered index
  | Range index ↦ can.inside index
  | Pair index ↦ can.whole index
  | TooLong ↦ λ long. omega (arith, short, long)
  | BeforeHash ↦ λ differs. differs refl
]
  where
    can : CanApply (patch_of (document_hash text) operation) text
    can = one_applies (document_hash text) operation text inside letters
