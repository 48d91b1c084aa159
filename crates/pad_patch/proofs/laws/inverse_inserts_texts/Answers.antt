use Rattle.pad_patch.proofs.Backs.{texts-inverse}
use Rattle.pad_patch.proofs.laws.inverse_inserts_texts.Goals as goal

pub returns : goal.returns
returns c = texts-inverse
