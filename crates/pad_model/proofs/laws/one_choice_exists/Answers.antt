use Rattle.pad_model.proofs.Existence.{one_choice_exists}
use Rattle.pad_model.proofs.laws.one_choice_exists.Goals as goal

pub returns : goal.returns
returns c = one_choice_exists
