use Rattle.disk_volume.proofs.WriteLemmas.{both_each, both_grew, written_each, written_grew}
use Rattle.disk_volume.proofs.synced.write_synced.Goals as goal

pub returns-in-Ok-clause-any_moment : goal.returns-in-Ok-clause-any_moment
returns-in-Ok-clause-any_moment g c told =
    both_each _ _ _ _ _ _ _ (c.requires told).0 (c.requires told).1 (g.met.V.Volume.as_it_reads c.write_at.new.self told) (c.in-Ok.ensures.disk told) (c.sync.ensures.disk told)

pub returns-in-Ok-clause-files : goal.returns-in-Ok-clause-files
returns-in-Ok-clause-files g c told = both_grew _ _ _ _ _ _ _ _ (c.in-Ok.ensures.disk told) (c.sync.ensures.disk told)

pub returns-in-Err-clause-any_moment : goal.returns-in-Err-clause-any_moment
returns-in-Err-clause-any_moment g c told = written_each _ _ _ _ _ _ (c.requires told).0 (c.requires told).1 (c.write_at.ensures.disk told)

pub returns-in-Err-clause-files : goal.returns-in-Err-clause-files
returns-in-Err-clause-files g c told = written_grew _ _ _ _ _ _ (c.write_at.ensures.disk told)
