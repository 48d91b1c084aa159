use Rattle.client_copy.proofs.Making.{checkpoint_made}
use Rattle.client_copy.proofs.laws.checkpoints_are_made.Goals as goal

pub returns : goal.returns
returns c = checkpoint_made
