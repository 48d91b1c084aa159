use Rattle.segment_files.proofs.Damaged.{whole_opens, whole_few, whole_small}
use Rattle.segment_files.proofs.laws.undamaged_segments_open.Goals as goal

pub returns-clause-opened : goal.returns-clause-opened
returns-clause-opened c = whole_opens

pub returns-clause-few : goal.returns-clause-few
returns-clause-few c = whole_few

pub returns-clause-small : goal.returns-clause-small
returns-clause-small c = whole_small
