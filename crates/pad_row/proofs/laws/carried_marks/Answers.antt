use Rattle.pad_stroke.proofs.CallerLemmas.{carried_marks, carried_inserted}
use Rattle.pad_row.proofs.laws.carried_marks.Goals as goal

pub returns : goal.returns
returns c = λ work by after. (carried_marks work by after, carried_inserted work by after)
