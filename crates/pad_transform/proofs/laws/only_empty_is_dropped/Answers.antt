use Rattle.pad_transform.proofs.Cases.{insert-dropped}
use Rattle.pad_transform.proofs.laws.only_empty_is_dropped.Goals as goal

pub returns : goal.returns
returns c = insert-dropped
