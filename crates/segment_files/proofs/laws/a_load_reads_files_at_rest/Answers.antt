use Rattle.disk_volume.specs.Disk.{reads}
use Rattle.segment_files.proofs.Rested.{rest_agree, opened_same, doubt_same, damage_same, rests_synced}
use Rattle.segment_files.proofs.laws.a_load_reads_files_at_rest.Goals as goal

pub returns-clause-opened : goal.returns-clause-opened
returns-clause-opened c form name disk payloads rests opened image left = opened_same form name (reads disk) image payloads (rest_agree form name disk rests image left) opened

pub returns-clause-doubt : goal.returns-clause-doubt
returns-clause-doubt c form name disk rests image left = doubt_same form name (reads disk) image (rest_agree form name disk rests image left)

pub returns-clause-damage : goal.returns-clause-damage
returns-clause-damage c form name disk rests image left = damage_same form name (reads disk) image (rest_agree form name disk rests image left)

pub returns-clause-synced : goal.returns-clause-synced
returns-clause-synced c = rests_synced
