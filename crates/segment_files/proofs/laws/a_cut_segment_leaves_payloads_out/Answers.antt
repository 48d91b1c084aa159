use Rattle.segment_files.proofs.Cut.{cut_leaves}
use Rattle.segment_files.proofs.laws.a_cut_segment_leaves_payloads_out.Goals as goal

pub returns : goal.returns
returns c = cut_leaves
