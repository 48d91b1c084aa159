use Rattle.std.proofs.Common.{rules}
use Rattle.disk_volume.specs.Step.{syncs}
use Rattle.disk_volume.proofs.RecordLemmas.{disk_more}
use Rattle.disk_volume.proofs.mem_volume.MemVolumeVolume.sync.Goals as goal

pub returns-clause-disk : goal.returns-clause-disk
returns-clause-disk c = disk_more c.args.self.now c.close.new.self (c.args.file.now, syncs) (search rules) (search rules)
