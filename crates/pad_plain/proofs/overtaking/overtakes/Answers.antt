use Rattle.std.proofs.Common.{false, refl, sym, subst, ◌∙◌, true≢false}
use Rattle.pad_plain.specs.Inside.Through.{IsRoot}
use Rattle.pad_plain.proofs.Stepping.{root_is}
use Rattle.pad_plain.proofs.Answering.{was_linked, not_better, says_overtakes}
use Rattle.pad_plain.proofs.overtaking.overtakes.Goals as goal

pub returns-then-is_among : goal.returns-then-is_among
returns-then-is_among c d earlier m whole choice is =
    was_linked c.args.base.now c.args.received.now earlier m whole d c.args.before.now choice is c.args.candidate.now c.requires.is c.args.past.now (c.requires.past d earlier m whole) c.if-is_among.ensures false refl

pub returns-then-not-is_better : goal.returns-then-not-is_better
returns-then-not-is_better c d earlier m whole choice is =
    not_better c.args.base.now c.args.received.now earlier m whole d c.args.before.now choice is c.args.candidate.now c.requires.is (λ h. true≢false (sym (c.is_better.ensures.1 h) ∙ c.if-not-is_better.true)) false refl

pub returns : goal.returns
returns c d earlier m whole choice is =
    let root = subst (λ l. IsRoot c.args.base.now l c.args.before.now.root choice.root) (sym whole) (root_is c.args.base.now earlier m c.args.before.now choice is) in
    says_overtakes c.args.base.now c.args.received.now earlier m whole d c.args.before.now choice is c.args.candidate.now c.requires.is c.args.past.now (c.requires.past d earlier m whole) c.if-is_among.ensures (c.is_better.ensures.0 c.if-not-is_better.false) c.in_ok-found.found (c.in_ok-found.ensures.through d choice.root root) c.is_none.result c.is_none.ensures
