use Rattle.client_copy.proofs.Repairing.{still_stands}
use Rattle.client_copy.proofs.laws.noted_stands.Goals as goal

pub returns : goal.returns
returns c = still_stands
