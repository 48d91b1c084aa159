use Rattle.pad_patch.proofs.Inverses.{text_after-inverse}
use Rattle.pad_patch.proofs.laws.inverse_gives_back.Goals as goal

pub returns : goal.returns
returns c = text_after-inverse
