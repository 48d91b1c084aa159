use Rattle.pad_strokes.proofs.Texts.{undo_stands}
use Rattle.pad_strokes.proofs.laws.undo_stands.Goals as goal

pub returns : goal.returns
returns c = undo_stands
