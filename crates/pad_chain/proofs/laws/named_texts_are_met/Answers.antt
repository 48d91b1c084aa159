use Rattle.pad_chain.proofs.Named.{named_met}
use Rattle.pad_chain.proofs.laws.named_texts_are_met.Goals as goal

pub returns : goal.returns
returns c = named_met
