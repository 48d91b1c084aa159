use Rattle.pad_branch.proofs.Rising.{root_text}
use Rattle.pad_branch.proofs.laws.root_text.Goals as goal

pub returns : goal.returns
returns c = root_text
