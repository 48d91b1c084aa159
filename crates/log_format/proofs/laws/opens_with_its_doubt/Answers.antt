use Rattle.log_format.proofs.CallerLemmas.{doubt_of-opens}
use Rattle.log_format.proofs.laws.opens_with_its_doubt.Goals as goal

pub returns : goal.returns
returns c = doubt_of-opens
