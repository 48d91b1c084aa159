use Rattle.std.proofs.Common.{sym, ◌∙◌, ap, subst}
use Rattle.std.proofs.lemmas.Result.{on_ok_weaker}
use Rattle.client_work.specs.Inside.Steps.{MergesBack}
use Rattle.client_work.proofs.Grounds.{not_both, merges_taken}
use Rattle.client_work.proofs.stepping.back_over_own.Goals as goal

pub merge_back-requires : goal.merge_back-requires
merge_back-requires c =
    let ready = c.requires.1 in
    (c.requires.0, record { fits = ready.fits; long = c.requires.3; on_ground = ready.on_ground; is_own = c.requires.2; merges = c.can_take_back.ensures.can.0 c.if-can_take_back.true })

pub over-requires : goal.over-requires
over-requires c = (c.requires.0, c.requires.1)

pub returns-then-can_take_back-clause-back : goal.returns-then-can_take_back-clause-back
returns-then-can_take_back-clause-back c = on_ok_weaker c.merge_back.result (λ same grounds ready long takes. same) c.merge_back.ensures.back

pub returns-then-can_take_back-clause-stands : goal.returns-then-can_take_back-clause-stands
returns-then-can_take_back-clause-stands c =
    on_ok_weaker c.merge_back.result
    (λ stays grounds ready own long.
    stays grounds (record { fits = ready.fits; long = long; on_ground = ready.on_ground; is_own = own; merges = c.can_take_back.ensures.can.0 c.if-can_take_back.true }))
    c.merge_back.ensures.stands

pub returns-clause-back : goal.returns-clause-back
returns-clause-back c =
    on_ok_weaker c.over.result
    (λ same grounds ready long takes.
    absurd (not_both c.can_take_back.result
    (c.can_take_back.ensures.can.1 (merges_taken c.inverse_merges_back.ensures grounds c.args.own.now c.args.step.now c.args.size c.args.hash.now c.args.work.now ready long takes))
    c.if-can_take_back.false))
    c.over.ensures.carried

pub returns-clause-stands : goal.returns-clause-stands
returns-clause-stands c = on_ok_weaker c.over.result (λ stays grounds ready own long. stays grounds ready) c.over.ensures.stands
