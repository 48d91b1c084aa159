use Rattle.pad_plain.proofs.Throughs.{too_high, runs_said}
use Rattle.pad_plain.proofs.best.runs_through.Goals as goal

pub returns-then-root-places : goal.returns-then-root-places
returns-then-root-places c d path is = too_high c.args.base.now c.args.received.now c.args.places.now c.args.root.now path c.requires.within is c.if-root-places.true

pub returns : goal.returns
returns c d path is =
    runs_said c.args.base.now c.args.received.now c.args.places.now c.args.root.now path c.requires.within is c.eq.result c.name_at.result c.name_at.ensures c.eq.ensures c.if-root-places.false d c.requires.linked
