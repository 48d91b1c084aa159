use Rattle.pad_strokes.proofs.Texts.{redo_stands}
use Rattle.pad_strokes.proofs.laws.redo_stands.Goals as goal

pub returns : goal.returns
returns c = redo_stands
