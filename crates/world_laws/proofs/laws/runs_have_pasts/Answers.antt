use Rattle.world_laws.proofs.Acting.{have_pasts}
use Rattle.world_laws.proofs.laws.runs_have_pasts.Goals as goal

pub returns : goal.returns
returns c = have_pasts c.channels_stay.ensures
