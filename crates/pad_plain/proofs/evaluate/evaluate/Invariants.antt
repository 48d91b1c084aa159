use Rattle.pad_plain.proofs.Evaluated.{StandsAt}
use Rattle.pad_plain.proofs.evaluate.evaluate.Given as goal

abbrev pub invariant-loop-height : goal.invariant-loop-height
invariant-loop-height g l = StandsAt l.base l.received l.places l.height l.since l.interval (g.S.UnitStore.units l.store)
