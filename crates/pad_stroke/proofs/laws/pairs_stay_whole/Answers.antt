use Rattle.pad_stroke.proofs.WholePairs.{pairs_stay_whole}
use Rattle.pad_stroke.proofs.laws.pairs_stay_whole.Goals as goal

pub returns : goal.returns
returns c = pairs_stay_whole
