use Rattle.pad_stroke.proofs.CallerLemmas.{CanApply-moved_to}
use Rattle.pad_row.proofs.laws.moved_applies.Goals as goal

pub returns : goal.returns
returns c = λ work before text can. CanApply-moved_to work before can text
