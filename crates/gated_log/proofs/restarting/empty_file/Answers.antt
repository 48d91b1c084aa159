use Rattle.gated_log.proofs.Cuts.{cut_each, cut_grew, emptied_each, emptied_rests, emptied_grew}
use Rattle.gated_log.proofs.restarting.empty_file.Goals as goal

pub returns-in-Ok-clause-any_moment : goal.returns-in-Ok-clause-any_moment
returns-in-Ok-clause-any_moment g c told = emptied_each _ _ _ _ _ (c.requires told) (c.in-Ok.ensures.disk told) (c.sync.ensures.disk told)

pub returns-in-Ok-clause-ok : goal.returns-in-Ok-clause-ok
returns-in-Ok-clause-ok g c told = emptied_rests _ _ _ _ _ (c.in-Ok.ensures.disk told) (c.sync.ensures.disk told)

pub returns-in-Ok-clause-files : goal.returns-in-Ok-clause-files
returns-in-Ok-clause-files g c told = emptied_grew _ _ _ _ _ (c.in-Ok.ensures.disk told) (c.sync.ensures.disk told)

pub returns-in-Err-clause-any_moment : goal.returns-in-Err-clause-any_moment
returns-in-Err-clause-any_moment g c told = cut_each _ _ _ _ (c.requires told) (c.cut.ensures.disk told)

pub returns-in-Err-clause-files : goal.returns-in-Err-clause-files
returns-in-Err-clause-files g c told = cut_grew _ _ _ _ (c.cut.ensures.disk told)
