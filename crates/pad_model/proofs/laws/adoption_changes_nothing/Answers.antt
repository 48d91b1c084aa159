use Rattle.pad_model.proofs.Adoption.{adoption_changes_nothing}
use Rattle.pad_model.proofs.laws.adoption_changes_nothing.Goals as goal

pub returns : goal.returns
returns c = adoption_changes_nothing
