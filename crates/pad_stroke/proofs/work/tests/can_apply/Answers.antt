use Rattle.std.proofs.Common.{List, ℕ, inl, subst, arith}
use Rattle.pad_patch.specs.declared.patch.Patch.{Patch}
use Rattle.pad_patch.specs.declared.misfit.Misfit.TheVariants.{Order, Range, Pair, TooLong}
use Rattle.pad_patch.specs.Misfit.{CanApply, IsFirstMisfit}
use Rattle.pad_stroke.proofs.work.tests.can_apply.Goals as goal

-- a patch after which the text is too long has no misfit that is told before
applies : (patch : Patch) (text : List ℕ) → IsFirstMisfit patch text TooLong → CanApply patch text
applies patch text misfit = record {
  ordered = λ index overlaps. misfit.first (Order index) overlaps (inl (omega arith));
  inside = λ index ends. misfit.first (Range index) ends (inl (omega arith));
  whole = λ index cuts. misfit.first (Pair index) cuts (inl (omega arith));
}

pub returns-in-Err : goal.returns-in-Err
returns-in-Err g c = λ told.
    let text = g.S.UnitStore.units c.args.text.now in
    applies c.args.patch.now text (subst (IsFirstMisfit c.args.patch.now text) (c.is_too_long.ensures told) c.in-Err.ensures.misfit)
