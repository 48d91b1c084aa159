use Rattle.pad_stroke.proofs.CallerLemmas.{stripped_counted}
use Rattle.pad_row.proofs.laws.stripped_counted.Goals as goal

pub returns : goal.returns
returns c = stripped_counted
