-- A work that is taken back after a test, if all that is known of the texts is that two patches can be applied to the present one.
use Rattle.std.specs.Prelude.{ℕ, List, length, All}
use Rattle.pad_text.specs.Text.{IsText}
use Rattle.pad_patch.specs.declared.operation.Operation.{Operation}
use Rattle.pad_patch.specs.declared.patch.Patch.{Patch}
use Rattle.pad_patch.specs.Piece.{text_after}
use Rattle.pad_patch.specs.Inverse.{inverse}
use Rattle.pad_patch.specs.Misfit.{CanApply}
use Rattle.pad_merge.specs.Merge.{CanMergeBack}

-- `back` is what takes a message back, and `first` what is kept of a message of the same name: if they can be merged back,
-- `first` can be applied to the text before and the present work to the text after it
abbrev pub TakenBackApplies : Type 0
TakenBackApplies =
    (first back second : Patch) (text : List ℕ) → IsText text → All (λ (operation : Operation). IsText operation.insert) first.ops → All (λ (operation : Operation). IsText operation.insert) back.ops
    → CanApply back text → CanApply second text → CanMergeBack first back second (length (text_after back text))
    → CanApply first (text_after back text) × CanApply second (text_after first (text_after back text))

-- they can if `back` is the inverse of what is kept
abbrev pub InverseMergesBack : Type 0
InverseMergesBack = (first second : Patch) (text : List ℕ) → CanApply first text → CanApply second (text_after first text) → CanMergeBack first (inverse first text) second (length text)
