use Rattle.pad_strokes.proofs.Edits.{back_gives_back}
use Rattle.pad_strokes.proofs.laws.back_gives_back.Goals as goal

pub returns : goal.returns
returns c = back_gives_back
