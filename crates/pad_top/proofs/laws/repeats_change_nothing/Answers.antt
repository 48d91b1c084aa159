use Rattle.pad_top.proofs.Repeats.{repeats_change_nothing}
use Rattle.pad_top.proofs.laws.repeats_change_nothing.Goals as goal

pub returns : goal.returns
returns c = repeats_change_nothing
