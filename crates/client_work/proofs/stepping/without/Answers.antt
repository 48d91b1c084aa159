use Rattle.std.proofs.Common.{sym, subst}
use Rattle.pad_patch.specs.Misfit.{CanApply}
use Rattle.pad_stroke.specs.Work.{Marked}
use Rattle.client_work.specs.Carrying.{IsOnGround}
use Rattle.client_work.proofs.Grounds.{stripped_on_ground}
use Rattle.client_work.proofs.stepping.without.Goals as goal

pub strip-requires : goal.strip-requires
strip-requires c =
    let work = c.requires.1 in
    let own = c.requires.2 in
    c.pairs_stay_whole.ensures c.args.work.now c.args.own.now work.paired.counted work.paired.texts
    (c.strips_whole.ensures c.args.work.now c.args.own.now c.requires.0.typed work.paired own.paired work.typed own.typed)

pub returns-clause-stands : goal.returns-clause-stands
returns-clause-stands c grounds on own =
    let strip = c.strip.ensures in
    subst (IsOnGround grounds) (sym strip.stripped)
    (stripped_on_ground c.strips_whole.ensures c.stripped_whole.ensures c.stripped_typed.ensures c.stripped_marks.ensures grounds c.args.work.now c.args.own.now on own
    (subst (λ (w : Marked). CanApply w.patch grounds.text) strip.stripped (strip.applies grounds.text on.applies)))
