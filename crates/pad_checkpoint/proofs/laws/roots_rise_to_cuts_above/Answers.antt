use Rattle.pad_model.specs.Base.{first_base}
use Rattle.pad_checkpoint.proofs.CutLemmas.{roots_rise}
use Rattle.pad_checkpoint.proofs.laws.roots_rise_to_cuts_above.Goals as goal

pub returns : goal.returns
returns c = roots_rise first_base
