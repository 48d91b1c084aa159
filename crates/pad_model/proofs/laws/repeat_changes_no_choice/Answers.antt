use Rattle.pad_model.proofs.Stays.{repeat_changes_no_choice}
use Rattle.pad_model.proofs.laws.repeat_changes_no_choice.Goals as goal

pub returns : goal.returns
returns c = repeat_changes_no_choice
