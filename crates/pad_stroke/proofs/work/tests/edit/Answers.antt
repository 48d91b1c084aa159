use Rattle.std.proofs.Common.{subst}
use Rattle.pad_patch.specs.Misfit.{CanApply}
use Rattle.pad_stroke.specs.Work.{Marked}
use Rattle.pad_stroke.proofs.work.tests.edit.Goals as goal

pub edit-requires-clause-applies : goal.edit-requires-clause-applies
edit-requires-clause-applies g c =
    subst (λ (w : Marked). CanApply w.patch (g.S.UnitStore.units c.args.text.now)) c.work.view_is (c.can_apply.ensures c.if-can_apply.true)
