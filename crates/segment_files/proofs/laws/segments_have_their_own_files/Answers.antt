use Rattle.segment_files.proofs.Named.{differ}
use Rattle.segment_files.proofs.laws.segments_have_their_own_files.Goals as goal

pub returns-clause-differ : goal.returns-clause-differ
returns-clause-differ c = differ
