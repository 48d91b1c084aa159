use Rattle.pad_stroke.proofs.CallerLemmas.{carried_applies}
use Rattle.pad_row.proofs.laws.carried_applies.Goals as goal

pub returns : goal.returns
returns c = carried_applies
