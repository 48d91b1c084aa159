use Rattle.keeper_log.proofs.tests.store.Goals as goal

pub returns-clause-tie : goal.returns-clause-tie
returns-clause-tie g c = λ told. let tie = c.requires.tie told in let next = (c.store.ensures.stored told).stored tie.0 tie.1 in (next.0, next.2)
