use Rattle.std.proofs.Common.{sym, subst}
use Rattle.pad_list.specs.Number.{NoRepeat}
use Rattle.pad_stroke.specs.Mark.{NoneInBoth}
use Rattle.pad_stroke.specs.Work.{Marked}
use Rattle.pad_stroke.proofs.work.Work.take_back.Goals as goal

pub returns-clause-different : goal.returns-clause-different
returns-clause-different c once_of once apart =
    let own = subst (λ (w : Marked). NoRepeat w.marks) (sym c.self.view_is) once in
    let none = subst (λ (w : Marked). NoneInBoth c.args.of.now.marks w.marks) (sym c.self.view_is) apart in
    subst (λ (w : Marked). NoRepeat w.marks) (sym c.drop.view_is)
    (c.in_ok-self-inside.ensures.different once_of (subst NoRepeat (sym c.as_slice.ensures.value) own) (subst (NoneInBoth c.args.of.now.marks) (sym c.as_slice.ensures.value) none))
