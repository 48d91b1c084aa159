use Rattle.log_format.proofs.CallerLemmas.{opens-file}
use Rattle.log_format.proofs.laws.reopens.Goals as goal

pub returns : goal.returns
returns c = opens-file
