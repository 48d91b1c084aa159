use Rattle.pad_merge.proofs.Named.{named_at}
use Rattle.pad_merge.proofs.laws.origins_name_units.Goals as goal

pub returns : goal.returns
returns c = named_at
