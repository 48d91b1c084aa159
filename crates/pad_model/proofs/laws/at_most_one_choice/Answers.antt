use Rattle.pad_model.proofs.OneChoice.{one_choice}
use Rattle.pad_model.proofs.laws.at_most_one_choice.Goals as goal

pub returns : goal.returns
returns c = one_choice
