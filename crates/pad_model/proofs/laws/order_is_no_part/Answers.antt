use Rattle.pad_model.proofs.OneBest.{same_members}
use Rattle.pad_model.proofs.laws.order_is_no_part.Goals as goal

pub returns : goal.returns
returns c = same_members
