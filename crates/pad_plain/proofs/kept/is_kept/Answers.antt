use Rattle.std.proofs.Common.{false, refl}
use Rattle.pad_plain.proofs.Answering.{not_above, says_kept}
use Rattle.pad_plain.proofs.kept.is_kept.Goals as goal

pub returns-then-candidate-root : goal.returns-then-candidate-root
returns-then-candidate-root c d path is =
    not_above c.args.base.now c.args.received.now d c.args.root.now path is c.args.candidate.now c.requires.is c.if-candidate-root.true false refl

pub returns : goal.returns
returns c d path is =
    says_kept c.args.base.now c.args.received.now d c.args.root.now path is c.args.candidate.now c.requires.is c.if-candidate-root.false c.in_ok-found.found (c.in_ok-found.ensures.through d path is) c.is_some.result c.is_some.ensures
