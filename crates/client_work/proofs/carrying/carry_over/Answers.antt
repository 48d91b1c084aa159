use Rattle.std.proofs.Common.{◌≡◌, ◌++◌, length, sym, ◌∙◌, ap, subst}
use Rattle.client_work.specs.Carrying.{Ground, behind_all, AreReady, IsOnGround}
use Rattle.client_work.proofs.Parts.{behind_both, ready_back, ready_on, both_parts}
use Rattle.client_work.proofs.carrying.carry_over.Goals as goal

pub carry_back-requires : goal.carry_back-requires
carry_back-requires c = (
  c.requires.0,
  ready_back c.requires.0 c.args.sent.now.entries c.args.back.now c.args.on.now c.args.size c.args.end.now c.first_hash-fork.result c.args.work.now c.first_hash-fork.ensures c.requires.1,
)

pub carry_on-requires : goal.carry_on-requires
carry_on-requires c =
    let sent = c.args.sent.now.entries in
    let ready = ready_back c.requires.0 sent c.args.back.now c.args.on.now c.args.size c.args.end.now c.first_hash-fork.result c.args.work.now c.first_hash-fork.ensures c.requires.1 in (
      behind_all c.args.back.now c.requires.0,
      ready_on c.requires.0 sent c.args.back.now c.args.on.now c.args.size c.args.end.now c.args.work.now c.carry_back.new.work c.requires.1 (c.in_ok-carry_back.ensures.stands c.requires.0 ready),
    )

pub returns-clause-switched : goal.returns-clause-switched
returns-clause-switched c grounds ready inverses =
    let sent = c.args.sent.now.entries in
    let back = ready_back grounds sent c.args.back.now c.args.on.now c.args.size c.args.end.now c.first_hash-fork.result c.args.work.now c.first_hash-fork.ensures ready in
    let on = ready_on grounds sent c.args.back.now c.args.on.now c.args.size c.args.end.now c.args.work.now c.carry_back.new.work ready (c.in_ok-carry_back.ensures.stands grounds back) in
    both_parts grounds sent c.args.back.now c.args.on.now c.args.work.now c.carry_back.new.work c.carry_on.new.work (c.in_ok-carry_back.ensures.back grounds back inverses)
    (c.in_ok-carry_on.ensures.on (behind_all c.args.back.now grounds) on)

pub returns-clause-stands : goal.returns-clause-stands
returns-clause-stands c grounds ready =
    let sent = c.args.sent.now.entries in
    let back = ready_back grounds sent c.args.back.now c.args.on.now c.args.size c.args.end.now c.first_hash-fork.result c.args.work.now c.first_hash-fork.ensures ready in
    let on = ready_on grounds sent c.args.back.now c.args.on.now c.args.size c.args.end.now c.args.work.now c.carry_back.new.work ready (c.in_ok-carry_back.ensures.stands grounds back) in
    subst (λ (g : Ground). IsOnGround g c.carry_on.new.work) (sym (behind_both c.args.back.now c.args.on.now grounds))
    (c.in_ok-carry_on.ensures.stands (behind_all c.args.back.now grounds) on)
