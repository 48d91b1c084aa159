use Rattle.pad_strokes.proofs.Texts.{change_stands}
use Rattle.pad_strokes.proofs.laws.change_stands.Goals as goal

pub returns : goal.returns
returns c = change_stands
