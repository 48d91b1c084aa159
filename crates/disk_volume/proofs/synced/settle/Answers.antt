use Rattle.disk_volume.proofs.WriteLemmas.{settled_each, settled_grew, settled_syncs}
use Rattle.disk_volume.proofs.synced.settle.Goals as goal

pub returns-clause-any_moment : goal.returns-clause-any_moment
returns-clause-any_moment g c told = settled_each _ _ _ _ (g.met.V.Volume.as_it_reads c.args.volume.now told) (c.sync.ensures.disk told)

pub returns-clause-files : goal.returns-clause-files
returns-clause-files g c told = settled_grew _ _ _ _ (c.sync.ensures.disk told)

pub returns-clause-syncs : goal.returns-clause-syncs
returns-clause-syncs g c told = settled_syncs _ _ _ _ (c.sync.ensures.disk told)
