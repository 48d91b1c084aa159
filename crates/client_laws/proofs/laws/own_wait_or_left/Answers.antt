use Rattle.client_laws.proofs.Agreeing.{all_wait}
use Rattle.client_laws.proofs.laws.own_wait_or_left.Goals as goal

pub returns : goal.returns
returns c = all_wait
