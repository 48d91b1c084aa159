use Rattle.pad_merge.proofs.Places.{firsts_increase}
use Rattle.pad_merge.proofs.laws.first_places_rise.Goals as goal

pub returns : goal.returns
returns c = firsts_increase
