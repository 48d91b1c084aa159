use Rattle.pad_model.proofs.Stays.{nothing_links}
use Rattle.pad_model.proofs.laws.nothing_links.Goals as goal

pub returns : goal.returns
returns c = nothing_links
