use Rattle.pad_checkpoint.proofs.LinkLemmas.{are_chains}
use Rattle.pad_checkpoint.proofs.laws.linked_paths_are_chains.Goals as goal

pub returns : goal.returns
returns c = are_chains
