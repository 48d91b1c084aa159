use Rattle.pad_transform.proofs.Cases.{insert-through}
use Rattle.pad_transform.proofs.laws.insertions_stay.Goals as goal

pub returns : goal.returns
returns c = insert-through
