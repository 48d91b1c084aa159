use Rattle.pad_strokes.proofs.Runs.{takes_out}
use Rattle.pad_strokes.proofs.laws.takes_out.Goals as goal

pub returns : goal.returns
returns g c = takes_out
