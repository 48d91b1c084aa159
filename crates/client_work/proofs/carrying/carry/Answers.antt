use Rattle.std.proofs.Common.{◌≡◌, ◌++◌, List, sym, ◌∙◌, ap, subst}
use Rattle.pad_branch.specs.declared.moved.Move.{Move}
use Rattle.client_work.specs.Switch.{reverted, applied, in_order}
use Rattle.client_work.specs.Carrying.{Ground, behind_all, AreInverses, AreReady, IsOnGround, all_moves}
use Rattle.client_work.proofs.Loops.{draft}
use Rattle.client_work.proofs.carrying.carry.Goals as goal

pub carry_over-requires : goal.carry_over-requires
carry_over-requires c =
    let same : c.as_slice-back.result.now ++ c.as_slice-on.result.now ≡ all_moves c.args.moved.now = λ i. c.as_slice-back.ensures i ++ c.as_slice-on.ensures i in
    (c.requires.0, subst (λ (moves : List Move). AreReady c.requires.0 c.args.sent.now.entries moves c.args.size c.args.end.now c.args.work.now) (sym same) c.requires.1)

pub returns-clause-switched : goal.returns-clause-switched
returns-clause-switched c grounds ready inverses =
    let sent = c.args.sent.now.entries in
    let same : c.as_slice-back.result.now ++ c.as_slice-on.result.now ≡ all_moves c.args.moved.now = λ i. c.as_slice-back.ensures i ++ c.as_slice-on.ensures i in
    let first = draft grounds c.args.work.now in
    subst (λ (back : List Move). draft (behind_all (back ++ c.args.moved.now.applied) grounds) c.carry_over.new.work ≡ in_order (applied sent) c.args.moved.now.applied (in_order (reverted sent) back first)) c.as_slice-back.ensures
    (subst (λ (on : List Move). draft (behind_all (c.as_slice-back.result.now ++ on) grounds) c.carry_over.new.work ≡ in_order (applied sent) on (in_order (reverted sent) c.as_slice-back.result.now first)) c.as_slice-on.ensures
    (c.in_ok-carry_over.ensures.switched grounds
    (subst (λ (moves : List Move). AreReady grounds sent moves c.args.size c.args.end.now c.args.work.now) (sym same) ready)
    (subst (λ (back : List Move). AreInverses sent back grounds.text) (sym c.as_slice-back.ensures) inverses)))

pub returns-clause-stands : goal.returns-clause-stands
returns-clause-stands c grounds ready =
    let sent = c.args.sent.now.entries in
    let same : c.as_slice-back.result.now ++ c.as_slice-on.result.now ≡ all_moves c.args.moved.now = λ i. c.as_slice-back.ensures i ++ c.as_slice-on.ensures i in
    subst (λ (moves : List Move). IsOnGround (behind_all moves grounds) c.carry_over.new.work) same
    (c.in_ok-carry_over.ensures.stands grounds (subst (λ (moves : List Move). AreReady grounds sent moves c.args.size c.args.end.now c.args.work.now) (sym same) ready))
