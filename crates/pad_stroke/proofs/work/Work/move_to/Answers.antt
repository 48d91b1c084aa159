use Rattle.std.proofs.Common.{[], sym, ap, subst}
use Rattle.pad_patch.specs.Misfit.{CanApply}
use Rattle.pad_stroke.specs.Work.{Marked, moved_to}
use Rattle.pad_stroke.proofs.Moved.{CanApply-moved_to}
use Rattle.pad_stroke.proofs.work.Work.move_to.Goals as goal

pub returns-clause-moved : goal.returns-clause-moved
returns-clause-moved c = ap (λ (w : Marked). moved_to w c.args.before) c.self.view_is

pub returns-clause-applies : goal.returns-clause-applies
returns-clause-applies c can =
    CanApply-moved_to (record { patch = c.self.inside.patch; marks = c.self.inside.marks.items }) c.args.before
    (subst (λ (w : Marked). CanApply w.patch []) (sym c.self.view_is) can)
