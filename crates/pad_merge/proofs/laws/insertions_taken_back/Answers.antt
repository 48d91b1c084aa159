use Rattle.pad_merge.proofs.TakenBack.{merged-inverse}
use Rattle.pad_merge.proofs.laws.insertions_taken_back.Goals as goal

pub returns : goal.returns
returns c = merged-inverse
