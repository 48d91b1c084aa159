use Rattle.segment_files.specs.Joined.{segment_opens}
use Rattle.segment_files.proofs.Joined.{joins_once}
use Rattle.segment_files.proofs.Rested.{all_agree, opened_same}
use Rattle.segment_files.proofs.laws.files_open_as_one_list.Goals as goal

pub returns-clause-once : goal.returns-clause-once
returns-clause-once c form name files = joins_once (segment_opens form name files)

pub returns-clause-by_segments : goal.returns-clause-by_segments
returns-clause-by_segments c form name one other payloads same = opened_same form name one other payloads (all_agree form name one other same)
