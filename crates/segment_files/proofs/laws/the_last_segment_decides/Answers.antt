use Rattle.segment_files.specs.Joined.{segment_opens}
use Rattle.segment_files.proofs.Joined.{joins_last}
use Rattle.segment_files.proofs.laws.the_last_segment_decides.Goals as goal

pub returns : goal.returns
returns c form name files = joins_last (segment_opens form name files)
