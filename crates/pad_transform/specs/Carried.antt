-- What a transformed patch keeps of the patch that it was, and leaves of the other one.
use Rattle.std.specs.Prelude.{◌≡◌, ℕ, List, length}
use Rattle.pad_text.specs.Text.{IsText}
use Rattle.pad_patch.specs.declared.patch.Patch.{Patch}
use Rattle.pad_patch.specs.declared.misfit.Misfit.{Misfit}
use Rattle.pad_patch.specs.declared.misfit.Misfit.TheVariants.{TooLong}
use Rattle.pad_patch.specs.Misfit.{IsMisfit, CanApply}
use Rattle.pad_patch.specs.Removed.{Removes, IsKeptFrom}

-- both patches can be applied to the text
pub record BothApply (patch by : Patch) (text : List ℕ) : Type 0 where
  pub is_text : IsText text
  pub patch_applies : CanApply patch text
  pub other_applies : CanApply by text

-- the patch fits the text, but the result may be too long
abbrev pub FitsButLength : Patch → List ℕ → Type 0
FitsButLength patch text = (misfit : Misfit) → IsMisfit patch text misfit → misfit ≡ TooLong

-- each unit of the text after `by` that `moved` removes is one that `patch` removed and that `by` kept
abbrev pub RemovesOnlyKept : Patch → Patch → Patch → List ℕ → Type 0
RemovesOnlyKept moved patch by text =
    (place : ℕ) → Removes moved place → (old : ℕ) × IsKeptFrom by (length text) old place × Removes patch old
