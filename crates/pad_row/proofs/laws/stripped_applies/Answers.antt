use Rattle.pad_stroke.proofs.CallerLemmas.{stripped_applies}
use Rattle.pad_row.proofs.laws.stripped_applies.Goals as goal

pub returns : goal.returns
returns c = stripped_applies
