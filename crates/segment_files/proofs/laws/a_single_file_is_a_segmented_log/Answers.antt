use Rattle.segment_files.proofs.Single.{single_opens, single_doubt, single_damage}
use Rattle.segment_files.proofs.laws.a_single_file_is_a_segmented_log.Goals as goal

pub returns-clause-opened : goal.returns-clause-opened
returns-clause-opened c = single_opens

pub returns-clause-doubt : goal.returns-clause-doubt
returns-clause-doubt c = single_doubt

pub returns-clause-damage : goal.returns-clause-damage
returns-clause-damage c = single_damage
